-- Receipts up to a point that isn't past the base's say nothing of the log.
use Rattle.std.proofs.Common.{◌≡◌, ◌∙◌, ℕ, ◌+◌, ◌<◌, ◌≤◌, Bool, true, false, nat_lt, List, [], ◌∷◌, ap, arith, inl, inr, refl, sym}
use Rattle.std.proofs.lemmas.Bool.{cases_eq}
use Rattle.ref_log.specs.declared.entries.Entry.{Entry}
use Rattle.ref_shared.specs.Gather.{GatherFails, ReceiptsMatch, told_at}
use Rattle.ref_shared.specs.declared.faults.GatherFault.{GatherFault}
use Rattle.ref_shared.specs.declared.faults.GatherFault.TheVariants.{ReceiptMissing, OutOfOrder, Memory}
use Rattle.ref_shared.proofs.Marking.{told_here, told_other}
use Rattle.ref_world.specs.Shares.{after_point}

below : (a b : ℕ) → nat_lt a b ≡ false → b ≤ a
below a b is = grind arith

kept_here : (p q : ℕ) (r : ℕ) (rs : List ℕ) (b : Bool) → nat_lt p r ≡ b → p < q
    → told_at q (after_point p rs) ≡ told_at q rs → told_at q (after_point p (r ∷ rs)) ≡ told_at q (r ∷ rs)
kept_here p q r rs true is low so = elim (cases_eq r q) [
  | inl e ↦ rw is (told_here q r (after_point p rs) e ∙ ap (λ z. q ∷ z) so ∙ sym (told_here q r rs e))
  | inr n ↦ rw is (told_other q r (after_point p rs) n ∙ so ∙ sym (told_other q r rs n))
]
kept_here p q r rs false is low so =
    rw is (so ∙ sym (told_other q r rs (λ e. absurd (omega (arith, below p r is, low, e)))))

-- what is told of a later point stays
told_after : (p q : ℕ) (rs : List ℕ) → p < q → told_at q (after_point p rs) ≡ told_at q rs
told_after p q [] low = refl
told_after p q (r ∷ rs) low = kept_here p q r rs (nat_lt p r) refl low (told_after p q rs low)

pub match_kept : (p base : ℕ) (log : List Entry) (rs : List ℕ) → p ≤ base → ReceiptsMatch base log rs → ReceiptsMatch base log (after_point p rs)
match_kept p base log rs low all i = told_after p (base + 1 + i) rs (omega (arith, low)) ∙ all i

pub match_back : (p base : ℕ) (log : List Entry) (rs : List ℕ) → p ≤ base → ReceiptsMatch base log (after_point p rs) → ReceiptsMatch base log rs
match_back p base log rs low all i = sym (told_after p (base + 1 + i) rs (omega (arith, low))) ∙ all i

pub fails_kept : (p base : ℕ) (log : List Entry) (rs : List ℕ) (f : GatherFault) → p ≤ base → GatherFails base log rs f → GatherFails base log (after_point p rs) f
fails_kept p base log rs ReceiptMissing low fails = λ all. fails (match_back p base log rs low all)
fails_kept p base log rs OutOfOrder low fails = (match_kept p base log rs low fails.0, fails.1)
fails_kept p base log rs Memory low fails = tt

pub fails_back : (p base : ℕ) (log : List Entry) (rs : List ℕ) (f : GatherFault) → p ≤ base → GatherFails base log (after_point p rs) f → GatherFails base log rs f
fails_back p base log rs ReceiptMissing low fails = λ all. fails (match_kept p base log rs low all)
fails_back p base log rs OutOfOrder low fails = (match_back p base log rs low fails.0, fails.1)
fails_back p base log rs Memory low fails = tt
