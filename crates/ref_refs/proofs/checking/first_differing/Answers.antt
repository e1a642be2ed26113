use Rattle.std.proofs.Common.{ℕ, Bool, ◌≡◌, if◌then◌else◌, true, false, Some, ap, subst, sym, take, ◌+◌, ◌∙◌}
use Rattle.std.proofs.lemmas.List.{take_all}
use Rattle.ref_refs.specs.Commit.{alien_ref, differs_at, first_protected}
use Rattle.ref_refs.specs.Smaller.{smaller}
use Rattle.ref_refs.proofs.Smallest.{IsFirst, IsKnown, first_protected_is, next_known, next_new, protecting}
use Rattle.ref_refs.proofs.checking.first_differing.Goals.{else-protects_differing, then-protects_differing}
use Rattle.ref_refs.proofs.checking.first_differing.Goals as goal

pub loop-done-preserved : goal.loop-done-preserved
loop-done-preserved g c =
    let ds = c.dones-dones.result.now in
    let i = c.loop-done.done-index in
    let d = c.done-item.result in
    let holds : ℕ → Bool = differs_at c.args.refs.now.values c.args.tx.now.began in
    let next : (b : Bool) → b ≡ c.protects_differing.result → IsFirst holds (protecting (take (i + 1) ds)) (if b then Some (smaller c.loop-done.first d.r) else c.loop-done.first) =
    λ b is. next_new holds ds i d c.loop-done.first c.loop-done.known b c.loop-done-test.true c.done-item.is c.loop-done.invariant.first c.loop-done.invariant.known (is ∙ c.protects_differing.ensures) in
    record {
      first = elim c.if-protects_differing.branch [
        | then-protects_differing w ↦ subst (IsFirst holds (protecting (take (i + 1) ds))) (ap Some (sym w.smaller.ensures) ∙ sym w.first-is) (next true (sym w.if-protects_differing.true))
        | else-protects_differing w ↦ subst (IsFirst holds (protecting (take (i + 1) ds))) (sym w.first-is) (next false (sym w.if-protects_differing.false))
      ];
      at = ap (λ n. n + 1) c.loop-done.invariant.at;
      known = subst (IsKnown (protecting (take (i + 1) ds))) (sym c.known_after-known.ensures) (next_known ds i d c.loop-done.known c.loop-done-test.true c.done-item.is c.loop-done.invariant.known);
    }

pub returns : goal.returns
returns g c =
    let ds = c.dones-dones.result.now in
    let holds : ℕ → Bool = differs_at c.args.refs.now.values c.args.tx.now.began in
    let first = c.loop-done.first in
    let all : IsFirst holds (protecting ds) first = subst (λ l. IsFirst holds (protecting l) first) (take_all c.loop-done.done-index ds c.loop-done-test.false) c.loop-done.invariant.first in
    first_protected_is c.args.refs.now.values ds holds first (ap (alien_ref c.args.refs.now.values) c.dones-dones.ensures.value ∙ c.requires) all
    ∙ ap (λ l. first_protected c.args.refs.now.values l holds) c.dones-dones.ensures.value
