-- What an action carried, released.
use Rattle.std.proofs.Common.{◌≡◌, ◌∙◌, ◌<◌, ◌≤◌, ◌-◌, ◌+◌, ℕ, zero, suc, Bool, false, ◌||◌, List, [], ◌∷◌, ◌++◌, drop, get_or, length, take, true, arith, refl, sym, ap}
use Rattle.std.proofs.Math.Seq.{take-suc}
use Rattle.std.specs.Prelude.{slice_set}
use Rattle.ref_fun.specs.declared.carries.Carry.{Carry}
use Rattle.ref_agents.specs.Account.{AccountSeen, has_carried, is_carried_by, last_carries, last_released, released, released_by}
use Rattle.ref_agents.specs.Agents.{carries_at, carries_if_here, change_agent, releasing, with_each_released}
use Rattle.ref_agents.specs.declared.accounts.Handled.{Handled}
use Rattle.ref_agents.specs.declared.accounts.Queued.{Queued}
use Rattle.ref_agents.specs.declared.accounts.SentBy.{SentBy}
use Rattle.ref_agents.specs.declared.accounts.SentBy.TheVariants.{Carried, Commit, Outside}
use Rattle.ref_agents.specs.declared.agents.Agent.{Agent}
use Rattle.ref_agents.proofs.Changed.{relate_change}

last_at : (hs : List Handled) (n : ℕ) (h : Handled) → length hs ≡ suc n → h ≡ get_or hs n h → last_carries hs ≡ h.action.carries
last_at [] n h all is = absurd (omega (arith, all))
last_at (a ∷ []) zero h all is = ap (λ x. x.action.carries) (sym is)
last_at (a ∷ []) (suc n) h all is = absurd (omega (arith, all))
last_at (a ∷ b ∷ hs) zero h all is = absurd (omega (arith, all))
last_at (a ∷ b ∷ hs) (suc n) h all is = last_at (b ∷ hs) n h (omega (arith, all)) is

-- the last of the handled actions
pub last_is : (hs : List Handled) (h : Handled) → 1 ≤ length hs → h ≡ get_or hs (length hs - 1) h → last_carries hs ≡ h.action.carries
last_is hs h some is = last_at hs (length hs - 1) h (omega (arith, some)) is

is_as_it_was : (g : ℕ) (by : SentBy) → is_carried_by g by ≡ false → released_by g by ≡ by
is_as_it_was g Outside isnt = refl
is_as_it_was g (Commit point) isnt = refl
is_as_it_was g (Carried h) isnt = rw isnt refl

either_false : (a b : Bool) → (a || b) ≡ false → (a ≡ false) × (b ≡ false)
either_false true b none = cc
either_false false b none = (refl, none)

or_here : (a b : Bool) → a ≡ true → (a || b) ≡ true
or_here a b is = rw is refl

or_later : (a b : Bool) → b ≡ true → (a || b) ≡ true
or_later true b is = refl
or_later false b is = is

pub account_is : (a b : AccountSeen) → a.start ≡ b.start → a.past ≡ b.past → a.handled ≡ b.handled → a.queue ≡ b.queue → a ≡ b
account_is a b start past handled queue = λ i. record { start = start i; past = past i; handled = handled i; queue = queue i }

-- where none was carried nothing changes
pub none_released : (g : ℕ) (queue : List Queued) → has_carried g queue ≡ false → last_released g queue ≡ queue
none_released g [] none = refl
none_released g (q ∷ qs) none =
    let parts = either_false (is_carried_by g q.by) (has_carried g qs) none in
    rw parts.1 (ap (λ by. record q { by = by } ∷ qs) (is_as_it_was g q.by parts.0))

has_one : (g : ℕ) (queue : List Queued) (i : ℕ) (x : Queued) → i < length queue → x ≡ get_or queue i x → is_carried_by g x.by ≡ true → has_carried g queue ≡ true
has_one g [] i x here is carried = absurd (omega (arith, here))
has_one g (q ∷ qs) zero x here is carried = or_here (is_carried_by g q.by) (has_carried g qs) (ap (λ y. is_carried_by g y.by) (sym is) ∙ carried)
has_one g (q ∷ qs) (suc i) x here is carried = or_later (is_carried_by g q.by) (has_carried g qs) (has_one g qs i x (omega (arith, here)) is carried)

-- the last one was found
pub found_last : (g : ℕ) (queue : List Queued) (i : ℕ) (x : Queued) → i < length queue → x ≡ get_or queue i x → is_carried_by g x.by ≡ true
    → has_carried g (drop (suc i) queue) ≡ false → slice_set queue i (released g x) ≡ last_released g queue
found_last g [] i x here is carried none = absurd (omega (arith, here))
found_last g (q ∷ qs) zero x here is carried none = rw none (ap (λ y. released g y ∷ qs) is)
found_last g (q ∷ qs) (suc i) x here is carried none =
    rw (has_one g qs i x (omega (arith, here)) is carried) (ap (λ l. q ∷ l) (found_last g qs i x (omega (arith, here)) is carried none))

-- ---- the agents that something was carried to

one_kept : (g h n : ℕ) (agents : List Agent) → carries_at (change_agent agents h (releasing g)) n ≡ carries_at agents n
one_kept g h n agents = relate_change (λ o p. carries_if_here p ≡ carries_if_here o) (releasing g) (λ o. refl) (λ x. refl) agents h n

-- a release changes nothing of what was carried
pub carries_kept : (g n : ℕ) (cs : List Carry) (agents : List Agent) → carries_at (with_each_released g cs agents) n ≡ carries_at agents n
carries_kept g n [] agents = refl
carries_kept g n (c ∷ cs) agents = carries_kept g n cs (change_agent agents c.g (releasing g)) ∙ one_kept g c.g n agents

released_more : (g : ℕ) (cs : List Carry) (c : Carry) (agents : List Agent) → with_each_released g (cs ++ c ∷ []) agents ≡ change_agent (with_each_released g cs agents) c.g (releasing g)
released_more g [] c agents = refl
released_more g (x ∷ cs) c agents = released_more g cs c (change_agent agents x.g (releasing g))

-- one more of them
pub released_next : (g : ℕ) (cs : List Carry) (i : ℕ) (c : Carry) (agents : List Agent) → i < length cs → c ≡ get_or cs i c
    → change_agent (with_each_released g (take i cs) agents) c.g (releasing g) ≡ with_each_released g (take (i + 1) cs) agents
released_next g cs i c agents here is =
    let n : i + 1 ≡ suc i = omega arith in
    sym (ap (λ k. with_each_released g (take k cs) agents) n
    ∙ ap (λ l. with_each_released g l agents) (take-suc cs i c here)
    ∙ ap (λ x. with_each_released g (take i cs ++ x ∷ []) agents) (sym is)
    ∙ released_more g (take i cs) c agents)
