-- The agents that get something of what is sent: where they are all here.
use Rattle.std.proofs.Common.{◌≡◌, ℕ, ◌<◌, ◌≤◌, nat_lt, true, List, [], ◌∷◌, ◌++◌, map, Option, None, Some, refl, arith}
use Rattle.std.specs.List.{AllByRecursion}
use Rattle.std.specs.Option.{option_or}
use Rattle.std.proofs.lemmas.Bool.{lt-ltb, ltb-true}
use Rattle.ref_fun.specs.Actions.{absent_agent, receivers}
use Rattle.ref_fun.specs.declared.actions.Action.{Action}
use Rattle.ref_fun.specs.declared.carries.Carry.{Carry}
use Rattle.ref_log.specs.declared.sends.Sent.{Sent}
use Rattle.ref_refs.specs.Commit.{first_absent}
use Rattle.ref_play.proofs.PlainLists.{all_map, found_none, none_found}

pub or_parts : {X : Type 0} (first later : Option X) → option_or first later ≡ None → (first ≡ None) × (later ≡ None)
or_parts None later none = (refl, none)
or_parts (Some x) later none = absurd cc

pub or_none : {X : Type 0} (first later : Option X) → first ≡ None → later ≡ None → option_or first later ≡ None
or_none None later a b = b
or_none (Some x) later a b = absurd cc

-- The agents that an action carries sends to are here, where there are so many.
abbrev pub AreHere : ℕ → List Carry → Type 0
AreHere n cs = AllByRecursion (λ c. c.g < n) cs

numbers_here : (n : ℕ) (cs : List Carry) → AllByRecursion (λ h. nat_lt h n ≡ true) (map (λ (c : Carry). c.g) cs) → AreHere n cs
numbers_here n [] all = tt
numbers_here n (c ∷ cs) all = (ltb-true c.g n all.0, numbers_here n cs all.1)

pub here_by : (n g : ℕ) (action : Action) → absent_agent n g action ≡ None → (g < n) × AreHere n action.carries
here_by n g action none =
    let all = found_none (λ h. nat_lt h n) (receivers g action) none in
    (ltb-true g n all.0, numbers_here n action.carries all.1)

-- where there are more agents
absent_later : (n m g : ℕ) (action : Action) → n ≤ m → absent_agent n g action ≡ None → absent_agent m g action ≡ None
absent_later n m g action count none =
    none_found (λ h. nat_lt h m) (receivers g action)
    (all_map (λ h. nat_lt h n ≡ true) (λ h. nat_lt h m ≡ true) (λ h below. lt-ltb h m (omega (arith, ltb-true h n below, count))) (receivers g action)
    (found_none (λ h. nat_lt h n) (receivers g action) none))

pub none_later : (n m : ℕ) (ss : List Sent) → n ≤ m → first_absent n ss ≡ None → first_absent m ss ≡ None
none_later n m [] count none = refl
none_later n m (s ∷ ss) count none =
    let parts = or_parts (absent_agent n s.agent s.action) (first_absent n ss) none in
    or_none (absent_agent m s.agent s.action) (first_absent m ss) (absent_later n m s.agent s.action count parts.0) (none_later n m ss count parts.1)

pub none_more : (n : ℕ) (ss : List Sent) (s : Sent) → first_absent n ss ≡ None → absent_agent n s.agent s.action ≡ None → first_absent n (ss ++ s ∷ []) ≡ None
none_more n [] s none one = or_none (absent_agent n s.agent s.action) None one refl
none_more n (x ∷ ss) s none one =
    let parts = or_parts (absent_agent n x.agent x.action) (first_absent n ss) none in
    or_none (absent_agent n x.agent x.action) (first_absent n (ss ++ s ∷ [])) parts.0 (none_more n ss s parts.1 one)

pub all_here : (n : ℕ) (ss : List Sent) → first_absent n ss ≡ None → AllByRecursion (λ s. (s.agent < n) × AreHere n s.action.carries) ss
all_here n [] none = tt
all_here n (s ∷ ss) none =
    let parts = or_parts (absent_agent n s.agent s.action) (first_absent n ss) none in
    (here_by n s.agent s.action parts.0, all_here n ss parts.1)
