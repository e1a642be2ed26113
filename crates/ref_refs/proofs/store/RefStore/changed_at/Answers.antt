use Rattle.std.proofs.Common.{◌∙◌, ap, sym}
use Rattle.ref_refs.specs.Seen.{RefsSeen, changed_at}
use Rattle.ref_refs.proofs.Since.{never_changed}
use Rattle.ref_refs.proofs.store.RefStore.changed_at.Goals as goal

pub returns-in-None : goal.returns-in-None
returns-in-None g c = sym (ap (λ (s : RefsSeen). changed_at s.lasts c.args.r) (sym c.self.view_is) ∙ never_changed c.self.inside.refs.lasts c.args.r (sym c.in-None.ensures))
