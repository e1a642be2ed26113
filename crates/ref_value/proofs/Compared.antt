-- What the proofs on sets and on maps share: two values compared, and what a call that may fail gives.
use Rattle.std.proofs.Common.{◌≡◌, true, false, refl, sym, ap, ◌∙◌, subst}
use Rattle.std.specs.Prelude.{◌≢◌, IfOk, OnOk, OnErr, Result, Ok, Err}
use Rattle.std.specs.Ordering.{is_eq, ordering_reverse}
use Rattle.std.specs.declared.cmp.Ordering.{Ordering}
use Rattle.std.specs.declared.cmp.Ordering.TheVariants.{Less, Equal, Greater}
use Rattle.std.specs.Cmp.{tied_itself}
use Rattle.ref_value.specs.Edn.{Edn}
use Rattle.ref_value.specs.Order.{edn_cmp}
use Rattle.ref_value.specs.OrderLaws.{edn_cmp_total, edn_same}

pub same_is : (x : Edn) → is_eq (edn_cmp x x) ≡ true
same_is x = ap is_eq (tied_itself edn_cmp_total x)

pub other_is : (x y : Edn) → x ≢ y → is_eq (edn_cmp x y) ≡ false
other_is x y h = by (edn_cmp x y) refl
  where
    by : (r : Ordering) → edn_cmp x y ≡ r → is_eq r ≡ false
    by Less e = refl
    by Equal e = absurd (h (edn_same x y e))
    by Greater e = refl

pub turned : (x y : Edn) (r : Ordering) → edn_cmp y x ≡ r → edn_cmp x y ≡ ordering_reverse r
turned x y r e = edn_cmp_total.antisymm x y ∙ ap ordering_reverse e

-- What holds of the value that a call gives holds of its result.
pub gives : {X E : Type 0} (r : Result X E) (y : X) (P : X → Type 0) → IfOk r (λ x. x ≡ y) → P y → IfOk r P
gives (Ok x) y P e p = subst P (sym e) p
gives (Err e) y P h p = tt

-- What follows from what a call that went well did.
pub went_on : {X E : Type 0} {P Q : Type 0} (r : Result X E) → OnOk r P → (P → Q) → OnOk r Q
went_on (Ok x) p f = f p
went_on (Err e) p f = tt

-- A call that gives this new value, or leaves the old one.
pub either_way : {X E Y : Type 0} (r : Result X E) (P : Y → Type 0) (old new now : Y) → OnOk r (now ≡ new) → OnErr r (now ≡ old) → P old → P new → P now
either_way (Ok x) P old new now is kept p q = subst P (sym is) q
either_way (Err e) P old new now is kept p q = subst P (sym kept) p
