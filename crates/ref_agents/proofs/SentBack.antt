-- Sends that are added to queues and taken back.
use Rattle.std.proofs.Common.{◌≡◌, ◌∙◌, ℕ, ◌<◌, ◌-◌, ◌+◌, zero, suc, List, [], ◌∷◌, ◌++◌, length, Option, None, Some, Result, Ok, Err, OnOk, OnErr, true, false, drop, take, get_or, slice_get, slice_set, arith, refl, sym, ap, subst}
use Rattle.std.specs.Result.{is_err}
use Rattle.std.proofs.Math.Seq.{drop-cons, take-append_seam, take-suc}
use Rattle.std.proofs.lemmas.List.{length-append}
use Rattle.ref_fun.specs.declared.actions.Action.{Action}
use Rattle.ref_agents.specs.declared.accounts.SentBy.{SentBy}
use Rattle.ref_agents.specs.Account.{AccountSeen, with_queued, without_last}
use Rattle.ref_agents.specs.Agents.{put_agent, queuing, unqueuing, with_each, with_send, without_each, without_send}
use Rattle.ref_agents.specs.declared.accounts.Queued.{Queued}
use Rattle.ref_agents.specs.declared.agents.Agent.{Agent}
use Rattle.ref_agents.proofs.Changed.{same_set}

-- ---- one send, taken back

take_all_but : (qs : List Queued) (q : Queued) → take (length (qs ++ q ∷ []) - 1) (qs ++ q ∷ []) ≡ qs
take_all_but qs q =
    let n : length (qs ++ q ∷ []) - 1 ≡ length qs = omega (arith, length-append qs (q ∷ [])) in
    ap (λ k. take k (qs ++ q ∷ [])) n ∙ take-append_seam qs (q ∷ [])

without-with : (account : AccountSeen) (q : Queued) → without_last (with_queued account q) ≡ account
without-with account q = ap (λ qs. record account { queue = qs }) (take_all_but account.queue q)

un-queuing : (x : Agent) (q : Queued) → unqueuing (queuing q x) ≡ x
un-queuing x q = ap (λ account. record x { account = account }) (without-with x.account q)

get_set : (agents : List Agent) (g : ℕ) (x y : Agent) → slice_get agents g ≡ Some x → slice_get (slice_set agents g y) g ≡ Some y
get_set [] g x y is = cc
get_set (a ∷ agents) zero x y is = refl
get_set (a ∷ agents) (suc g) x y is = get_set agents g x y is

set_set : (agents : List Agent) (g : ℕ) (y z : Agent) → slice_set (slice_set agents g y) g z ≡ slice_set agents g z
set_set [] g y z = refl
set_set (a ∷ agents) zero y z = refl
set_set (a ∷ agents) (suc g) y z = ap (λ l. a ∷ l) (set_set agents g y z)

send_undone : (agents : List Agent) (g : ℕ) (q : Queued) (o : Option Agent) → slice_get agents g ≡ o → without_send (with_send agents g q) g ≡ agents
send_undone agents g q None is =
    ap (λ o. without_send (put_agent agents g (queuing q) o) g) is ∙ ap (λ o. put_agent agents g unqueuing o) is
send_undone agents g q (Some x) is =
    let y : Agent = queuing q x in
    ap (λ o. without_send (put_agent agents g (queuing q) o) g) is
    ∙ ap (λ o. put_agent (slice_set agents g y) g unqueuing o) (get_set agents g x y is)
    ∙ set_set agents g y (unqueuing y)
    ∙ ap (λ z. slice_set agents g z) (un-queuing x q)
    ∙ same_set agents g x is

-- ---- one more action for each of a list

module _ {X : Type 0} (to : X → ℕ) (of : X → Action) (by : SentBy) where
  abbrev pub one : X → Queued
  one x = record { action = of x; by = by }

  pub each_undone : (xs : List X) (agents : List Agent) → without_each to xs (with_each to of by xs agents) ≡ agents
  each_undone [] agents = refl
  each_undone (x ∷ xs) agents =
      ap (λ l. without_send l (to x)) (each_undone xs (with_send agents (to x) (one x))) ∙ send_undone agents (to x) (one x) (slice_get agents (to x)) refl

  each_more : (xs : List X) (x : X) (agents : List Agent) → with_each to of by (xs ++ x ∷ []) agents ≡ with_send (with_each to of by xs agents) (to x) (one x)
  each_more [] x agents = refl
  each_more (y ∷ xs) x agents = each_more xs x (with_send agents (to y) (one y))

  -- with one more of a list
  pub each_next : (xs : List X) (i : ℕ) (x : X) (agents : List Agent) → i < length xs → x ≡ get_or xs i x
      → with_each to of by (take (i + 1) xs) agents ≡ with_send (with_each to of by (take i xs) agents) (to x) (one x)
  each_next xs i x agents here is =
      let n : i + 1 ≡ suc i = omega arith in
      ap (λ k. with_each to of by (take k xs) agents) n
      ∙ ap (λ l. with_each to of by l agents) (take-suc xs i x here)
      ∙ ap (λ y. with_each to of by (take i xs ++ y ∷ []) agents) (sym is)
      ∙ each_more (take i xs) x agents

-- without one more of a list, the last first
pub without_next : {X : Type 0} (to : X → ℕ) (xs : List X) (left : ℕ) (x : X) (agents : List Agent) → 0 < left → left - 1 < length xs → x ≡ get_or xs (left - 1) x
    → without_each to (drop (left - 1) xs) agents ≡ without_send (without_each to (drop left xs) agents) (to x)
without_next to xs left x agents some here is =
    let n : suc (left - 1) ≡ left = omega (arith, some) in
    ap (λ l. without_each to l agents) (drop-cons xs (left - 1) x here)
    ∙ ap (λ y. without_each to (y ∷ drop (suc (left - 1)) xs) agents) (sym is)
    ∙ ap (λ k. without_each to (x ∷ drop k xs) agents) n

pub on_ok : {T E : Type 0} (r : Result T E) (P : Type 0) → OnOk r P → is_err r ≡ false → P
on_ok (Ok x) P holds is = holds
on_ok (Err e) P holds is = cc

pub on_err : {T E : Type 0} (r : Result T E) (P : Type 0) → OnErr r P → is_err r ≡ true → P
on_err (Ok x) P holds is = cc
on_err (Err e) P holds is = holds

-- what comes of a call in both cases
pub on_either : {T E A : Type 0} (r : Result T E) (P : A → Type 0) (new one other : A) → OnOk r (new ≡ one) → OnErr r (new ≡ other) → P one → P other → P new
on_either (Ok x) P new one other ok err first second = subst P (sym ok) first
on_either (Err e) P new one other ok err first second = subst P (sym err) second
