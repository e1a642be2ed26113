-- The index of the agents that are ready, where an agent changes.
use Rattle.std.proofs.Common.{◌≡◌, ◌∙◌, ◌<◌, ◌≤◌, ◌+◌, ◌==◌, ◌&&◌, ℕ, zero, suc, cond, Bool, true, false, not, ◌⊎◌, inl, inr, is_some, List, [], ◌∷◌, ◌++◌, length, take, Option, None, Some, Result, Ok, Err, OnOk, OnErr, slice_get, slice_set, arith, refl, sym, ap, subst}
use Rattle.std.specs.BTreeMap.{is_at}
use Rattle.std.specs.Cmp.{unsigned_tied}
use Rattle.std.specs.Option.{option_map}
use Rattle.std.specs.Ordering.{nat_cmp}
use Rattle.std.proofs.lemmas.Bool.{cases_eq, cases_lt, eq-eqb, false_from_ne_true, ne_eqb}
use Rattle.std.proofs.lemmas.List.{get_or-set_other, get_or-set_same, length-append, length-set, length-take}
use Rattle.std.proofs.lemmas.Option.{slice_get_past}
use Rattle.ref_value.specs.Edn.{Edn}
use Rattle.ref_fun.specs.declared.carries.Carry.{Carry}
use Rattle.ref_agents.specs.Account.{AccountSeen, has_carried, has_head, has_point, has_released, is_released_by, kept_queue, last_released, released, released_by, with_head_ended, with_queued}
use Rattle.ref_agents.specs.Agents.{is_ready_if_here}
use Rattle.ref_agents.specs.Ends.{after_end}
use Rattle.ref_agents.specs.Indexed.{AreMarked, HaveHeads, IndexedSeen, IsNext, is_headed, is_sent_at, sent_by_at}
use Rattle.ref_agents.specs.Marks.{AreClear, is_set}
use Rattle.ref_agents.specs.Places.{has_pair}
use Rattle.ref_agents.specs.declared.accounts.Mark.{Mark}
use Rattle.ref_agents.specs.declared.accounts.Queued.{Queued}
use Rattle.ref_agents.specs.declared.accounts.SentBy.{SentBy}
use Rattle.ref_agents.specs.declared.accounts.SentBy.TheVariants.{Carried, Commit, Outside}
use Rattle.ref_agents.specs.declared.agents.Agent.{Agent}
use Rattle.ref_agents.specs.declared.agents.ErrorMode.{ErrorMode}
use Rattle.ref_agents.specs.declared.agents.ErrorMode.TheVariants.{Continue, Fail}
use Rattle.ref_agents.specs.declared.faults.AgentError.{AgentError}

both_ways : (b : Bool) → b ≡ true → b ≡ false → ⊥
both_ways b is isnt = cc

-- ---- an agent that is changed

pub get_elsewhere : (agents : List Agent) (g h : ℕ) (y : Agent) → (h ≡ g → ⊥) → slice_get (slice_set agents g y) h ≡ slice_get agents h
get_elsewhere [] g h y other = refl
get_elsewhere (a ∷ agents) zero zero y other = absurd (other refl)
get_elsewhere (a ∷ agents) zero (suc h) y other = refl
get_elsewhere (a ∷ agents) (suc g) zero y other = refl
get_elsewhere (a ∷ agents) (suc g) (suc h) y other = get_elsewhere agents g h y (λ same. other (ap suc same))

pub get_here : (agents : List Agent) (g : ℕ) (x y : Agent) → slice_get agents g ≡ Some x → slice_get (slice_set agents g y) g ≡ Some y
get_here [] g x y is = cc
get_here (a ∷ agents) zero x y is = refl
get_here (a ∷ agents) (suc g) x y is = get_here agents g x y is

-- the others are marked as they were
pub others_marked : (agents : List Agent) (unreleased : List ℕ) (marks : List Bool) (g : ℕ) (y : Agent) → AreMarked agents unreleased marks
    → (h : ℕ) → (h ≡ g → ⊥) → is_set marks h ≡ is_ready_if_here unreleased (slice_get (slice_set agents g y) h)
others_marked agents unreleased marks g y are h other = are.1 h ∙ ap (is_ready_if_here unreleased) (sym (get_elsewhere agents g h y other))

pub as_many : (agents : List Agent) (unreleased : List ℕ) (marks : List Bool) (g : ℕ) (y : Agent) → AreMarked agents unreleased marks → length marks ≡ length (slice_set agents g y)
as_many agents unreleased marks g y are = are.0 ∙ sym (length-set agents g y)

pub heads_with : (agents : List Agent) (heads : List (ℕ × ℕ)) (g : ℕ) (x y : Agent) → slice_get agents g ≡ Some x
    → ((point : ℕ) → is_headed point (Some y) ≡ true → has_pair heads point g ≡ true) → HaveHeads agents heads → HaveHeads (slice_set agents g y) heads
heads_with agents heads g x y is ok are h point first = by (cases_eq h g) where
  by : (h ≡ g) ⊎ (h ≡ g → ⊥) → has_pair heads point h ≡ true
  by (inl same) =
      ap (has_pair heads point) same
      ∙ ok point (ap (is_headed point) (sym (ap (slice_get (slice_set agents g y)) same ∙ get_here agents g x y is)) ∙ first)
  by (inr other) = are h point (ap (is_headed point) (sym (get_elsewhere agents g h y other)) ∙ first)

-- where its first action was sent by what sent it before
pub heads_kept : (agents : List Agent) (heads : List (ℕ × ℕ)) (g : ℕ) (x y : Agent) → slice_get agents g ≡ Some x
    → ((point : ℕ) → is_headed point (Some y) ≡ true → is_headed point (Some x) ≡ true) → HaveHeads agents heads → HaveHeads (slice_set agents g y) heads
heads_kept agents heads g x y is kept are =
    heads_with agents heads g x y is (λ point first. are g point (ap (is_headed point) is ∙ kept point first)) are

pub heads_more : (agents : List Agent) (heads after : List (ℕ × ℕ)) → ((point h : ℕ) → has_pair heads point h ≡ true → has_pair after point h ≡ true) → HaveHeads agents heads → HaveHeads agents after
heads_more agents heads after more are g point first = more point g (are g point first)

-- where it is as ready as it was
pub marked_same : (agents : List Agent) (unreleased : List ℕ) (marks : List Bool) (g : ℕ) (x y : Agent) → slice_get agents g ≡ Some x
    → is_ready_if_here unreleased (Some y) ≡ is_ready_if_here unreleased (Some x) → AreMarked agents unreleased marks → AreMarked (slice_set agents g y) unreleased marks
marked_same agents unreleased marks g x y is same are = (as_many agents unreleased marks g y are, λ h. by h (cases_eq h g)) where
  by : (h : ℕ) → (h ≡ g) ⊎ (h ≡ g → ⊥) → is_set marks h ≡ is_ready_if_here unreleased (slice_get (slice_set agents g y) h)
  by h (inl at) =
      are.1 h ∙ ap (λ k. is_ready_if_here unreleased (slice_get agents k)) at ∙ ap (is_ready_if_here unreleased) is ∙ sym same
      ∙ ap (is_ready_if_here unreleased) (sym (ap (slice_get (slice_set agents g y)) at ∙ get_here agents g x y is))
  by h (inr other) = others_marked agents unreleased marks g y are h other

-- ---- what sent the first that waits

abbrev pub headed : ℕ → List Queued → Bool
headed point queue = is_sent_at point (option_map (λ q. q.by) (slice_get queue 0))

sent_released : (point g : ℕ) (by : SentBy) → is_sent_at point (Some (released_by g by)) ≡ true → is_sent_at point (Some by) ≡ true
sent_released point g Outside is = is
sent_released point g (Commit at) is = is
sent_released point g (Carried k) is = by (k == g) is where
  by : (b : Bool) → is_sent_at point (Some (cond b Outside (Carried k))) ≡ true → false ≡ true
  by true is = is
  by false is = is

pub head_released : (point g : ℕ) (queue : List Queued) → headed point (last_released g queue) ≡ true → headed point queue ≡ true
head_released point g [] is = is
head_released point g (q ∷ qs) is = by (has_carried g qs) is where
  by : (b : Bool) → headed point (cond b (q ∷ last_released g qs) (released g q ∷ qs)) ≡ true → headed point (q ∷ qs) ≡ true
  by true is = is
  by false is = sent_released point g q.by is

head_ended : (point : ℕ) (account : AccountSeen) (mark : Mark) (queue : List Queued) → account.queue ≡ queue → headed point (with_head_ended account mark queue).queue ≡ true
    → is_sent_at point (option_map (λ q. q.by) (slice_get queue 1)) ≡ true
head_ended point account mark [] none is = absurd (both_ways (headed point account.queue) is (ap (headed point) none))
head_ended point account mark (q ∷ qs) none is = is

head_after : (point : ℕ) (mode : ErrorMode) (judgement : Result Edn AgentError) (cs : List Carry) (x : Agent) → headed point (after_end mode judgement cs x).account.queue ≡ true → is_sent_at point (sent_by_at (Some x) 1) ≡ true
head_after point mode (Ok v) cs x is = head_ended point x.account _ x.account.queue refl is
head_after point Fail (Err e) cs x is = head_ended point x.account _ x.account.queue refl is
head_after point Continue (Err e) cs x is = head_ended point x.account _ x.account.queue refl is

-- ---- a change that may be refused

-- an action that ended, or didn't
pub heads_ended : {T E : Type 0} (r : Result T E) (agents : List Agent) (heads after : List (ℕ × ℕ)) (g : ℕ) (x y : Agent) (judgement : Result Edn AgentError) (cs : List Carry) → slice_get agents g ≡ Some x
    → OnOk r (y ≡ after_end x.mode judgement cs x) → OnErr r (y ≡ x)
    → ((point h : ℕ) → has_pair heads point h ≡ true → has_pair after point h ≡ true)
    → ((point : ℕ) → is_sent_at point (sent_by_at (Some x) 1) ≡ true → has_pair after point g ≡ true)
    → HaveHeads agents heads → HaveHeads (slice_set agents g y) after
heads_ended (Ok u) agents heads after g x y judgement cs is ok err more here are =
    heads_with agents after g x y is (λ point first. here point (head_after point x.mode judgement cs x (subst (λ (a : Agent). is_headed point (Some a) ≡ true) ok first))) (heads_more agents heads after more are)
heads_ended (Err e) agents heads after g x y judgement cs is ok err more here are =
    heads_kept agents after g x y is (λ point first. subst (λ (a : Agent). is_headed point (Some a) ≡ true) err first) (heads_more agents heads after more are)

-- ---- the marks

-- without the last
less_of : {X Y : Type 0} (see : Option X → Y) (xs : List X) (n h : ℕ) → (h < n → see (slice_get (take n xs) h) ≡ see (slice_get xs h)) × (n ≤ h → slice_get (take n xs) h ≡ None)
less_of see xs zero h = ((λ below. absurd (omega (arith, below))), λ past. refl)
less_of see [] (suc n) h = ((λ below. refl), λ past. refl)
less_of see (x ∷ xs) (suc n) zero = ((λ below. refl), λ past. absurd (omega (arith, past)))
less_of see (x ∷ xs) (suc n) (suc h) = ((λ below. (less_of see xs n h).0 (omega (arith, below))), λ past. (less_of see xs n h).1 (omega (arith, past)))

pub heads_less : (agents : List Agent) (heads : List (ℕ × ℕ)) (n : ℕ) → HaveHeads agents heads → HaveHeads (take n agents) heads
heads_less agents heads n are g point is = by (cases_lt g n) where
  by : (g < n) ⊎ (n ≤ g) → has_pair heads point g ≡ true
  by (inl below) = are g point (sym ((less_of (is_headed point) agents n g).0 below) ∙ is)
  by (inr past) = absurd (both_ways (is_headed point (slice_get (take n agents) g)) is (ap (is_headed point) ((less_of (is_headed point) agents n g).1 past)))

set_less : (marks : List Bool) (n h : ℕ) → (h < n → is_set (take n marks) h ≡ is_set marks h) × (n ≤ h → is_set (take n marks) h ≡ false)
set_less marks zero h = ((λ below. absurd (omega (arith, below))), λ past. refl)
set_less [] (suc n) h = ((λ below. refl), λ past. refl)
set_less (m ∷ ms) (suc n) zero = ((λ below. refl), λ past. absurd (omega (arith, past)))
set_less (m ∷ ms) (suc n) (suc h) = ((λ below. (set_less ms n h).0 (omega (arith, below))), λ past. (set_less ms n h).1 (omega (arith, past)))

pub marked_less : (agents : List Agent) (unreleased : List ℕ) (marks : List Bool) (n m : ℕ) → n ≡ m → AreMarked agents unreleased marks → AreMarked (take n agents) unreleased (take m marks)
marked_less agents unreleased marks n m same are = subst (λ k. AreMarked (take n agents) unreleased (take k marks)) same (
  omega (arith, length-take n agents, length-take n marks, are.0),
  λ h. by h (cases_lt h n),
) where
  by : (h : ℕ) → (h < n) ⊎ (n ≤ h) → is_set (take n marks) h ≡ is_ready_if_here unreleased (slice_get (take n agents) h)
  by h (inl below) = (set_less marks n h).0 below ∙ are.1 h ∙ sym ((less_of (is_ready_if_here unreleased) agents n h).0 below)
  by h (inr past) = (set_less marks n h).1 past ∙ ap (is_ready_if_here unreleased) (sym ((less_of (is_ready_if_here unreleased) agents n h).1 past))
