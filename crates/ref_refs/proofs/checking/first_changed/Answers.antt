use Rattle.std.proofs.Common.{ℕ, Bool, ◌≡◌, if◌then◌else◌, true, false, Some, ap, subst, sym, take, ◌+◌, ◌∙◌}
use Rattle.std.proofs.lemmas.List.{take_all}
use Rattle.ref_refs.specs.Commit.{alien_ref, changed_after, first_protected}
use Rattle.ref_refs.specs.Smaller.{smaller}
use Rattle.ref_refs.proofs.Smallest.{IsFirst, first_protected_is, next_first, protecting}
use Rattle.ref_refs.proofs.checking.first_changed.Goals.{else-protects_changed, then-protects_changed}
use Rattle.ref_refs.proofs.checking.first_changed.Goals as goal

pub loop-done-preserved : goal.loop-done-preserved
loop-done-preserved g c =
    let ds = c.dones-dones.result.now in
    let i = c.loop-done.done-index in
    let d = c.done-item.result in
    let holds : ℕ → Bool = changed_after c.args.refs.now.lasts c.read_point-read_point.result in
    let next : (b : Bool) → b ≡ c.protects_changed.result → IsFirst holds (protecting (take (i + 1) ds)) (if b then Some (smaller c.loop-done.first d.r) else c.loop-done.first) =
    λ b is. next_first holds ds i d c.loop-done.first b c.loop-done-test.true c.done-item.is c.loop-done.invariant (is ∙ c.protects_changed.ensures) in
    elim c.if-protects_changed.branch [
      | then-protects_changed w ↦ subst (IsFirst holds (protecting (take (i + 1) ds))) (ap Some (sym w.smaller.ensures) ∙ sym w.first-is) (next true (sym w.if-protects_changed.true))
      | else-protects_changed w ↦ subst (IsFirst holds (protecting (take (i + 1) ds))) (sym w.first-is) (next false (sym w.if-protects_changed.false))
    ]

pub returns : goal.returns
returns g c =
    let ds = c.dones-dones.result.now in
    let holds : ℕ → Bool = changed_after c.args.refs.now.lasts c.args.tx.now.read_point in
    let first = c.loop-done.first in
    let all : IsFirst (changed_after c.args.refs.now.lasts c.read_point-read_point.result) (protecting ds) first = subst (λ l. IsFirst (changed_after c.args.refs.now.lasts c.read_point-read_point.result) (protecting l) first) (take_all c.loop-done.done-index ds c.loop-done-test.false) c.loop-done.invariant in
    let is : IsFirst holds (protecting ds) first = subst (λ h. IsFirst h (protecting ds) first) (ap (changed_after c.args.refs.now.lasts) c.read_point-read_point.ensures) all in
    first_protected_is c.args.refs.now.values ds holds first (ap (alien_ref c.args.refs.now.values) c.dones-dones.ensures.value ∙ c.requires) is
    ∙ ap (λ l. first_protected c.args.refs.now.values l holds) c.dones-dones.ensures.value
