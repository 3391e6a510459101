-- What the verdict takes fits the buffer.
use Rattle.claimed.proofs.Room.{verdict_count}
use Rattle.check_order.proofs.main.Goals as goal

pub answer_input-requires-clause-fits : goal.answer_input-requires-clause-fits
answer_input-requires-clause-fits c input output count output_after made = rw made.0 (verdict_count input.now output.now)
