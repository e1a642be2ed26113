use Rattle.std.proofs.Common.{Some, ap, arith, cond, refl, ◌∙◌}
use Rattle.std.specs.BTreeMap.{get}
use Rattle.std.specs.Ordering.{nat_cmp}
use Rattle.ref_tx.proofs.Tabled.{tabled_next, tied}
use Rattle.ref_tx.proofs.tables.Table.make_place.Goals as goal

pub returns : goal.returns
returns c = λ means began are is.
    let d = c.index-dones-self.result in
    let old = c.args.self.now in
    tabled_next means began c.args.dones.now d old (record { first = _; own = c.insert.new.self }) c.in_ok-own.own are is
    (omega (arith, c.if-dones-self-lt-MOST_SCANNED.false)) c.index-dones-self.is _ c.get.ensures.value c.in_ok-own.ensures
    (λ q. c.in_ok-insert.ensures.updates.0 q ∙ ap (λ b. cond b (Some c.in_ok-own.own) (get nat_cmp old.own q)) (tied d.r q)) refl
