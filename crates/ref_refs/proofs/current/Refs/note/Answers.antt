use Rattle.std.proofs.Common.{ap, ◌++◌, ◌∙◌}
use Rattle.ref_refs.specs.Late.{all_taken}
use Rattle.ref_refs.proofs.Taken.{taken_append}
use Rattle.ref_refs.proofs.current.Refs.note.Goals as goal

pub returns : goal.returns
returns c =
    let s = c.self.inside.settled in
    ap (λ l. all_taken l s) (c.put_behind.ensures ∙ ap (λ l. c.args.changes ++ l) c.replace.ensures.value)
    ∙ taken_append c.args.changes c.self.inside.late s
    ∙ ap (all_taken c.args.changes) c.self.view_is
