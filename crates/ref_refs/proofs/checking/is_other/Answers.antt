use Rattle.std.proofs.Common.{◌||◌, nat_lt, ap, ◌∙◌}
use Rattle.ref_refs.proofs.Others.{other_none, other_some}
use Rattle.ref_refs.proofs.checking.is_other.Goals as goal

pub returns-in-None : goal.returns-in-None
returns-in-None c = other_none c.args.refs.now.values _ c.args.refs.now.lasts c.args.read_point c.args.r c.in-None.ensures.value c.in-None.ensures.last

pub returns-in-Some : goal.returns-in-Some
returns-in-Some c =
    let v = c.in-Some.version.now in
    ap (λ b. nat_lt c.args.read_point v.changed_at || b) c.differs.ensures
    ∙ other_some c.args.refs.now.values _ c.args.refs.now.lasts c.args.read_point c.args.r v.changed_at v.value c.in-Some.ensures.value c.in-Some.ensures.last
