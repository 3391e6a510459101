-- What the cuts take fits the buffer.
use mathlib.Core.Path.{ap}
use Rattle.listing.specs.Transcript.{Transcript}
use Rattle.cuts.proofs.CutsLaws.{cuts_count}
use Rattle.every_cut.proofs.main.Goals as goal

pub answer_input-requires-clause-fits : goal.answer_input-requires-clause-fits
answer_input-requires-clause-fits c input output count output_after made =
    rw (ap (λ (found : Transcript). found.count) made) (cuts_count input.now output.now)
