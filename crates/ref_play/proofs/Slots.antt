-- What an actor has open, where a slot is written.
use Rattle.std.proofs.Common.{◌≡◌, ℕ, ◌==◌, cond, Bool, true, false, List, Option, None, Some, refl, sym, ap, ◌∙◌}
use Rattle.std.proofs.Math.Path.{fun_ext}
use Rattle.std.specs.BTreeMap.{is_at}
use Rattle.std.specs.Cmp.{unsigned_tied}
use Rattle.std.specs.Ordering.{nat_cmp}
use Rattle.std.proofs.lemmas.Bool.{eqb-true}
use Rattle.ref_play.specs.Present.{put}
use Rattle.ref_play.specs.Sims.{in_slot, slot_of}

of_cond : {X : Type 0} (b : Bool) (tx : Option X) (o : Option (Option X)) → in_slot (cond b (Some tx) o) ≡ cond b tx (in_slot o)
of_cond true tx o = refl
of_cond false tx o = refl

pub updated : {X : Type 0} (old new : List (ℕ × Option X)) (a : ℕ) (tx : Option X) → ((q : ℕ) → slot_of new q ≡ cond (is_at (nat_cmp a) q) (Some tx) (slot_of old q)) → (λ q. in_slot (slot_of new q)) ≡ put (λ q. in_slot (slot_of old q)) a tx
updated old new a tx h = fun_ext (λ q. ap in_slot (h q) ∙ (of_cond (is_at (nat_cmp a) q) tx (slot_of old q) ∙ ap (λ b. cond b tx (in_slot (slot_of old q))) (unsigned_tied a q)))

-- what was taken out and is put back, as it was or as it is then
twice : {X : Type 0} (b : Bool) (x y was : Option X) → cond b y (cond b x was) ≡ cond b y was
twice true x y was = refl
twice false x y was = refl

pub put_again : {X : Type 0} (f : ℕ → Option X) (a : ℕ) (x y : Option X) → put (put f a x) a y ≡ put f a y
put_again f a x y = fun_ext (λ q. twice (a == q) x y (f q))

as_was : {X : Type 0} (f : ℕ → Option X) (a q : ℕ) (x : Option X) (b : Bool) → (a == q) ≡ b → f a ≡ x → cond b x (f q) ≡ f q
as_was f a q x true is same = sym same ∙ ap f (eqb-true a q is)
as_was f a q x false is same = refl

pub put_same : {X : Type 0} (f : ℕ → Option X) (a : ℕ) (x : Option X) → f a ≡ x → put f a x ≡ f
put_same f a x same = fun_ext (λ q. as_was f a q x (a == q) refl same)

-- where a slot goes away
of_gone : {X : Type 0} (b : Bool) (o : Option (Option X)) → in_slot (cond b None o) ≡ cond b None (in_slot o)
of_gone true o = refl
of_gone false o = refl

pub removed : {X : Type 0} (old new : List (ℕ × Option X)) (a : ℕ) → ((q : ℕ) → slot_of new q ≡ cond (is_at (nat_cmp a) q) None (slot_of old q)) → (λ q. in_slot (slot_of new q)) ≡ put (λ q. in_slot (slot_of old q)) a None
removed old new a h = fun_ext (λ q. ap in_slot (h q) ∙ (of_gone (is_at (nat_cmp a) q) (slot_of old q) ∙ ap (λ b. cond b None (in_slot (slot_of old q))) (unsigned_tied a q)))
