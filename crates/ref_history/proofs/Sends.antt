-- Sends of actions that carry none, and of those that carry some.
use Rattle.std.proofs.Common.{◌≡◌, ◌∙◌, ℕ, ◌==◌, true, false, List, [], ◌∷◌, ◌++◌, length, refl, ap, arith, append_assoc, codes}
use Rattle.std.proofs.lemmas.Bool.Decides.{nat_tests}
use Rattle.ref_fun.specs.declared.carries.Carry.{Carry}
use Rattle.ref_forms.specs.Names.{NamesSeen}
use Rattle.ref_history.specs.Shown.{bracketed, carrying_head, carrying_send, carrying_text, plain_send}

pub carrying_none : (names : NamesSeen) (agent call : List ℕ) (carries : List Carry) → (length carries == 0) ≡ true → carrying_text names agent call carries ≡ plain_send agent call
carrying_none names agent call [] none = refl
carrying_none names agent call (c ∷ cs) none = absurd (grind (arith, nat_tests))

pub carrying_some : (names : NamesSeen) (agent call : List ℕ) (carries : List Carry) → (length carries == 0) ≡ false → carrying_text names agent call carries ≡ carrying_send names agent call carries
carrying_some names agent call [] some = absurd cc
carrying_some names agent call (c ∷ cs) some = refl

-- the head of a send that carries, written in three steps
pub head_more : (old one two new agent call : List ℕ) → one ≡ old ++ codes " [:send-carry " → two ≡ one ++ agent → new ≡ two ++ bracketed call → new ≡ old ++ carrying_head agent call
head_more old one two new agent call first second third =
    third ∙ (ap (λ r. r ++ bracketed call) (second ∙ ap (λ r. r ++ agent) first)
    ∙ (append_assoc (old ++ codes " [:send-carry ") agent (bracketed call) ∙ append_assoc old (codes " [:send-carry ") (agent ++ bracketed call)))
