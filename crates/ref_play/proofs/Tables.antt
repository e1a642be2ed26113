-- Open transactions that a table serves, slot by slot.
use Rattle.std.proofs.Common.{◌≡◌, ℕ, zero, suc, cond, ◌&&◌, Bool, true, false, List, [], ◌∷◌, Option, None, Some, Result, Ok, Err, refl, sym, ap, subst, ◌∙◌, arith}
use Rattle.std.specs.Bool.{OnTrue, OnFalse}
use Rattle.std.specs.List.{All}
use Rattle.std.specs.BTreeMap.{is_at}
use Rattle.std.specs.Ordering.{nat_cmp}
use Rattle.std.specs.Result.{is_err}
use Rattle.ref_log.specs.Told.{Tells}
use Rattle.ref_tx.specs.Seen.{TxSeen}
use Rattle.ref_refs.specs.Commit.{lacking}
use Rattle.ref_play.specs.Present.{WithTx}
use Rattle.ref_fun.specs.Calls.{Known}
use Rattle.ref_play.specs.Runs.{AreServed, IsServed}
use Rattle.ref_play.specs.Sims.{SimSeen, Slots, in_slot, present, slot_of, txs_of}
use Rattle.ref_world.specs.References as worlds

all_rest : {X : Type 0} (P : X → Type 0) (x : X) (xs : List X) → All P (x ∷ xs) → All P xs
all_rest P x xs all k d below = all (suc k) d (omega (arith, below))

all_first : {X : Type 0} (P : X → Type 0) (x : X) (xs : List X) → All P (x ∷ xs) → P x
all_first P x xs all = all zero x (omega arith)

pub tells_ok : {T Fault : Type 0} (reason : Option Fault) (told : Result T Fault) → Tells reason told → is_err told ≡ false → reason ≡ None
tells_ok reason (Ok x) tells isnt = tells
tells_ok reason (Err f) tells isnt = absurd cc

pub tells_err : {T Fault : Type 0} (reason : Option Fault) (told : Result T Fault) → Tells reason told → is_err told ≡ true → reason ≡ None → ⊥
tells_err reason (Ok x) tells is none = cc
tells_err reason (Err f) tells is none = cc

module _ (knows : ℕ → Bool) where
  first_served : (k : ℕ) (slot : Option TxSeen) (rest : Slots) → WithTx slot (λ tx. lacking knows tx.dones ≡ None) (Unit {0}) → AreServed knows (txs_of rest) → AreServed knows (txs_of ((k, slot) ∷ rest))
  first_served k slot rest one all a = by (is_at (nat_cmp a) k) where
    by : (b : Bool) → WithTx (in_slot (cond b (Some slot) (slot_of rest a))) (λ tx. lacking knows tx.dones ≡ None) (Unit {0})
    by true = one
    by false = all a

  -- where the slot that was looked at passes
  pub look_on : (self left next : Slots) (k : ℕ) (slot : Option TxSeen) → left ≡ (k, slot) ∷ next → WithTx slot (λ tx. lacking knows tx.dones ≡ None) (Unit {0}) → (AreServed knows (txs_of left) → AreServed knows (txs_of self)) → AreServed knows (txs_of next) → AreServed knows (txs_of self)
  look_on self left next k slot is one so_far rest = so_far (subst (λ l. AreServed knows (txs_of l)) (sym is) (first_served k slot next one rest))

  pub found_on : (self left next : Slots) (k : ℕ) (slot : Option TxSeen) → left ≡ (k, slot) ∷ next → All (λ e. slot_of self e.0 ≡ Some e.1) left → All (λ e. slot_of self e.0 ≡ Some e.1) next
  found_on self left next k slot is found = all_rest (λ e. slot_of self e.0 ≡ Some e.1) (k, slot) next (subst (All (λ e. slot_of self e.0 ≡ Some e.1)) is found)

  -- where it doesn't
  pub not_served : (self left next : Slots) (k : ℕ) (slot : Option TxSeen) (tx : TxSeen) → left ≡ (k, slot) ∷ next → slot ≡ Some tx → All (λ e. slot_of self e.0 ≡ Some e.1) left → (lacking knows tx.dones ≡ None → ⊥) → AreServed knows (txs_of self) → ⊥
  not_served self left next k slot tx is has found lacks served =
      let here : slot_of self k ≡ Some slot = all_first (λ (e : ℕ × Option TxSeen). slot_of self e.0 ≡ Some e.1) (k, slot) next (subst (All (λ (e : ℕ × Option TxSeen). slot_of self e.0 ≡ Some e.1)) is found) in
      let open_here : txs_of self k ≡ Some tx = ap in_slot here ∙ has in
      lacks (subst (λ o. WithTx o (λ t. lacking knows t.dones ≡ None) (Unit {0})) open_here (served k))

  pub none_left : (self left : Slots) → left ≡ [] → (AreServed knows (txs_of left) → AreServed knows (txs_of self)) → AreServed knows (txs_of self)
  none_left self left is so_far = so_far (subst (λ l. AreServed knows (txs_of l)) (sym is) (λ a. tt))

-- a world and its open transactions that a table serves
parts : (a b c : Bool) → (a && (b && c)) ≡ true → (a ≡ true) × (b ≡ true) × (c ≡ true)
parts true true true is = (refl, refl, refl)
parts true true false is = absurd cc
parts true false c is = absurd cc
parts false b c is = absurd cc

pub serves_all : (knows : Known) (s : SimSeen) (serves : Bool) → worlds.are_known knows.preds s.world ≡ true → OnTrue serves (AreServed knows.funs (txs_of s.slots)) → OnFalse serves (AreServed knows.funs (txs_of s.slots) → ⊥)
    → (serves ≡ true → IsServed knows (present s)) × (IsServed knows (present s) → serves ≡ true)
serves_all knows s true known here none = (λ is. let all = parts _ _ _ known in (all.0, all.1, all.2, here), λ served. refl)
serves_all knows s false known here none = (λ is. absurd cc, λ served. absurd (none served.3))
