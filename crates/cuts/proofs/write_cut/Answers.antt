-- `cuts::write_cut` meets its contract: every choice is found alike, so their number is that of all that are tried.
use Rattle.cuts.proofs.AlikeLaws.{cut-found}
use Rattle.cuts.proofs.write_cut.Goals as goal

pub returns : goal.returns
returns c =
    let args = c.args in
    let page = args.page.now in
    let wrote = c.write_cut_line.ensures in
    let whole = cut-found args.machine args.number page.place page.buffer.now c.cut.ensures.reached
    c.cut.ensures.image c.cut_evicted.ensures c.recover.ensures c.recover-2.ensures
    c.alike_choices-choices.ensures c.not_zero-differ.ensures (wrote.place_after, wrote.buffer_after) in
    record { same_reference = wrote.same_reference; place_after = whole.0; buffer_after = whole.1 }
