use Rattle.std.proofs.Common.{ℕ, Bool, ◌||◌, false, None, ap, subst, sym, take, ◌+◌, ◌∙◌}
use Rattle.std.proofs.lemmas.Bool.{or_left, or_right}
use Rattle.std.proofs.lemmas.List.{take_all}
use Rattle.ref_refs.specs.Commit.{alien_ref, changed_after, differs_at, first_protected}
use Rattle.ref_refs.proofs.Smallest.{IsFirst, IsKnown, first_protected_is, next_known, next_new, none_of, protecting}
use Rattle.ref_refs.proofs.checking.is_any_other.Goals as goal

pub loop-done-preserved : goal.loop-done-preserved
loop-done-preserved g c =
    let ds = c.dones-dones.result.now in
    let i = c.loop-done.done-index in
    let d = c.done-item.result in
    let other : ℕ → Bool = λ r. changed_after c.args.refs.now.lasts c.args.tx.now.read_point r || differs_at c.args.refs.now.values c.args.tx.now.began r in
    record {
      first = next_new other ds i d None c.loop-done.known false c.loop-done-test.true c.done-item.is c.loop-done.invariant.first c.loop-done.invariant.known
          (sym c.if-protects_other.false ∙ c.protects_other.ensures);
      at = ap (λ n. n + 1) c.loop-done.invariant.at;
      known = subst (IsKnown (protecting (take (i + 1) ds))) (sym c.known_after-known.ensures) (next_known ds i d c.loop-done.known c.loop-done-test.true c.done-item.is c.loop-done.invariant.known);
    }

pub returns-clause-unchanged : goal.returns-clause-unchanged
returns-clause-unchanged g c = λ e.
    let ds = c.dones-dones.result.now in
    let changed : ℕ → Bool = changed_after c.args.refs.now.lasts c.args.tx.now.read_point in
    let differing : ℕ → Bool = differs_at c.args.refs.now.values c.args.tx.now.began in
    let all : IsFirst (λ r. changed r || differing r) (protecting ds) None = subst (λ l. IsFirst (λ r. changed r || differing r) (protecting l) None) (take_all c.loop-done.done-index ds c.loop-done-test.false) c.loop-done.invariant.first in
    sym (first_protected_is c.args.refs.now.values ds changed None (ap (alien_ref c.args.refs.now.values) c.dones-dones.ensures.value ∙ c.requires) (none_of (λ r. changed r || differing r) changed (protecting ds) (λ r h. or_left (changed r) (differing r) h) all)
    ∙ ap (λ l. first_protected c.args.refs.now.values l changed) c.dones-dones.ensures.value)

pub returns-clause-same : goal.returns-clause-same
returns-clause-same g c = λ e.
    let ds = c.dones-dones.result.now in
    let changed : ℕ → Bool = changed_after c.args.refs.now.lasts c.args.tx.now.read_point in
    let differing : ℕ → Bool = differs_at c.args.refs.now.values c.args.tx.now.began in
    let all : IsFirst (λ r. changed r || differing r) (protecting ds) None = subst (λ l. IsFirst (λ r. changed r || differing r) (protecting l) None) (take_all c.loop-done.done-index ds c.loop-done-test.false) c.loop-done.invariant.first in
    sym (first_protected_is c.args.refs.now.values ds differing None (ap (alien_ref c.args.refs.now.values) c.dones-dones.ensures.value ∙ c.requires) (none_of (λ r. changed r || differing r) differing (protecting ds) (λ r h. or_right (changed r) (differing r) h) all)
    ∙ ap (λ l. first_protected c.args.refs.now.values l differing) c.dones-dones.ensures.value)
