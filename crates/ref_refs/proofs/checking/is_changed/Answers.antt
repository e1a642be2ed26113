use Rattle.std.proofs.Common.{nat_lt, arith, ap, sym, ◌∙◌}
use Rattle.std.proofs.lemmas.Bool.{le-ltb}
use Rattle.ref_refs.proofs.Since.{never_changed}
use Rattle.ref_refs.proofs.checking.is_changed.Goals as goal

pub returns-in-None : goal.returns-in-None
returns-in-None c = sym (ap (nat_lt c.args.point) (never_changed c.args.refs.now.lasts c.args.r (sym c.in-None.ensures)) ∙ le-ltb c.args.point 0 (omega arith))
