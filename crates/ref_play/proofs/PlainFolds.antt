-- When an account is folded, and what that leaves, in plain words.
use Rattle.std.proofs.Common.{◌≡◌, ◌≢◌, ◌↔◌, ℕ, ◌+◌, ◌<◌, ◌^◌, ◌&&◌, not, nat_lt, Bool, true, false, List, [], ◌∷◌, ◌++◌, length, Option, Some, slice_get, refl, sym, ap, subst, ◌∙◌}
use Rattle.std.proofs.lemmas.Bool.{and_from, and_parts, lt-ltb, ltb-true, not-true}
use Rattle.ref_agents.specs.Account.{failing, is_failed_mark, most_folded, number_of}
use Rattle.ref_agents.specs.Agents.{can_fold, can_fold_at, can_fold_if_here, folding}
use Rattle.ref_agents.specs.declared.accounts.Handled.{Handled}
use Rattle.ref_agents.specs.declared.accounts.Mark.{Mark}
use Rattle.ref_agents.specs.declared.accounts.Mark.TheVariants as marks
use Rattle.ref_agents.specs.declared.agents.Agent.{Agent}
use Rattle.ref_play.specs.PlainAgents.{CanFold, FoldsMean, IsFolded, NoneFailed}
use Rattle.ref_play.proofs.Folded.{can_here, folded_is, not_folded, number_kept, with_folded}
use Rattle.ref_play.proofs.PlainAgents.{only_changed}

-- ---- when

can_parts : (agents : List Agent) (g : ℕ) → can_fold_at agents g ≡ true → CanFold agents g
can_parts agents g can = by (can_here agents g can) where
  by : (agent : Agent) × (slice_get agents g ≡ Some agent) × (can_fold agent ≡ true) → CanFold agents g
  by (agent, here, can) =
      let parts = and_parts (not agent.is_carrying) (nat_lt (number_of agent.account) most_folded) can in
      record { agent = agent; here = here; released = not-true agent.is_carrying parts.0; few = ltb-true (number_of agent.account) most_folded parts.1 }

can_back : (agents : List Agent) (g : ℕ) → CanFold agents g → can_fold_at agents g ≡ true
can_back agents g can =
    ap can_fold_if_here can.here
    ∙ and_from (not can.agent.is_carrying) (nat_lt (number_of can.agent.account) most_folded) (ap not can.released) (lt-ltb (number_of can.agent.account) most_folded can.few)

-- ---- the actions that stay

unfailed : (mark : Mark) → mark ≢ marks.Failed → is_failed_mark mark ≡ false
unfailed marks.Done other = refl
unfailed marks.Failed other = absurd (other refl)
unfailed marks.Passed other = refl

failing_none : (hs : List Handled) → NoneFailed hs → failing hs ≡ []
failing_none [] none = refl
failing_none (h ∷ hs) none = rw (unfailed h.mark none.0) (failing_none hs none.1)

failing_last : (others : List Handled) (one : Handled) → NoneFailed others → one.mark ≡ marks.Failed → failing (others ++ one ∷ []) ≡ one ∷ []
failing_last [] one none failed = rw (ap is_failed_mark failed) refl
failing_last (h ∷ hs) one none failed = rw (unfailed h.mark none.0) (failing_last hs one none.1 failed)

is_folded : (before : Agent) → IsFolded before (with_folded before)
is_folded before = record {
  start = refl;
  none = λ none. failing_none before.account.handled none;
  last = λ others one is none failed. ap failing is ∙ failing_last others one none failed;
  count = number_kept before.account before.value;
  queue = refl;
  value = refl;
  error = refl;
  mode = refl;
  out = refl;
  carrying = refl;
}

pub folds_mean : FoldsMean
folds_mean = record {
  when = λ agents g. (can_parts agents g, can_back agents g);
  folds = λ store g before here can. (
    folding before,
    only_changed store g folding before here,
    subst (IsFolded before) (sym (folded_is before (sym (ap can_fold_if_here here) ∙ can))) (is_folded before),
  );
  stays = not_folded;
}
