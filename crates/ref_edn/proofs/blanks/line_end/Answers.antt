use Rattle.std.proofs.Common.{sym, ◌∙◌}
use Rattle.ref_edn.proofs.Spaces.{line_end_none, line_end_at}
use Rattle.ref_edn.proofs.blanks.line_end.Goals as goal

pub returns-in-Some-clause-value : goal.returns-in-Some-clause-value
returns-in-Some-clause-value c =
    let h = c.in-Some.ensures in
    c.after.ensures ∙ sym (line_end_at c.args.text.now c.in-Some.i h.0 h.1)

pub returns-in-None-clause-value : goal.returns-in-None-clause-value
returns-in-None-clause-value c = c.after-in-None.ensures ∙ sym (line_end_none c.args.text.now c.in-None.ensures)
