-- The places of what is carried, where a queue changes.
use Rattle.std.proofs.Common.{◌≡◌, ◌∙◌, ◌<◌, ◌≤◌, ◌+◌, ◌-◌, ◌==◌, ◌&&◌, ◌||◌, ℕ, zero, suc, cond, Bool, true, false, ◌⊎◌, inl, inr, List, [], ◌∷◌, ◌++◌, length, drop, get_or, Option, None, Some, slice_get, slice_set, zero-add, arith, refl, sym, ap}
use Rattle.std.proofs.lemmas.Bool.{cases_eq, cases_lt, eq-eqb, eqb-true, ne_eqb, or_from}
use Rattle.std.proofs.lemmas.Option.{get_or_from_slice_get, slice_get_past}
use Rattle.ref_agents.specs.Account.{has_carried, is_carried_by, released_by}
use Rattle.ref_agents.specs.Places.{ArePlaced, has_pair, is_carried_at, is_carried_if_here}
use Rattle.ref_agents.specs.declared.accounts.Queued.{Queued}
use Rattle.ref_agents.specs.declared.accounts.SentBy.{SentBy}
use Rattle.ref_agents.specs.declared.accounts.SentBy.TheVariants.{Carried, Commit, Outside}

-- ---- lists

end_here : (queue : List Queued) (q : Queued) → slice_get (queue ++ q ∷ []) (length queue) ≡ Some q
end_here [] q = refl
end_here (p ∷ ps) q = end_here ps q

before_end : (queue : List Queued) (q : Queued) (i : ℕ) → (length queue ≡ i → ⊥) → slice_get (queue ++ q ∷ []) i ≡ slice_get queue i
before_end [] q zero other = absurd (other refl)
before_end [] q (suc i) other = refl
before_end (p ∷ ps) q zero other = refl
before_end (p ∷ ps) q (suc i) other = before_end ps q i (λ same. other (omega (arith, same)))

set_elsewhere : (queue : List Queued) (i j : ℕ) (q : Queued) → (i ≡ j → ⊥) → slice_get (slice_set queue i q) j ≡ slice_get queue j
set_elsewhere [] i j q other = refl
set_elsewhere (p ∷ ps) zero zero q other = absurd (other refl)
set_elsewhere (p ∷ ps) zero (suc j) q other = refl
set_elsewhere (p ∷ ps) (suc i) zero q other = refl
set_elsewhere (p ∷ ps) (suc i) (suc j) q other = set_elsewhere ps i j q (λ same. other (ap suc same))

set_here : (queue : List Queued) (i : ℕ) (p q : Queued) → slice_get queue i ≡ Some p → slice_get (slice_set queue i q) i ≡ Some q
set_here [] i p q is = cc
set_here (r ∷ rs) zero p q is = refl
set_here (r ∷ rs) (suc i) p q is = set_here rs i p q is

get_drop : (n k : ℕ) (queue : List Queued) → slice_get (drop n queue) k ≡ slice_get queue (n + k)
get_drop zero k queue = ap (slice_get queue) (sym (zero-add k))
get_drop (suc n) k [] = refl
get_drop (suc n) k (q ∷ qs) =
    let more : suc (n + k) ≡ suc n + k = omega arith in
    get_drop n k qs ∙ ap (slice_get (q ∷ qs)) more

-- ---- tests

alone : (c : Bool) → ((c && true) || false) ≡ c
alone true = refl
alone false = refl

left_out : (c x : Bool) → ((c && false) || x) ≡ x
left_out true x = refl
left_out false x = refl

gone : (c : Bool) → cond (c && true) false c ≡ false
gone true = refl
gone false = refl

stays : (c x : Bool) → cond (c && false) false x ≡ x
stays true x = refl
stays false x = refl

-- ---- one more, and one less

module _ (first : ℕ) (pairs after : List (ℕ × ℕ)) where
  abbrev pub IsMore : Queued → ℕ → Type 0
  IsMore q place = (g n : ℕ) → has_pair after g n ≡ ((is_carried_by g q.by && (place == n)) || has_pair pairs g n)

  abbrev pub IsLess : Queued → ℕ → Type 0
  IsLess q place = (g n : ℕ) → has_pair after g n ≡ cond (is_carried_by g q.by && (place == n)) false (has_pair pairs g n)

  -- where no place is that of the one that is new, or has gone
  more_apart : (q : Queued) (place g n : ℕ) → IsMore q place → (place ≡ n → ⊥) → has_pair after g n ≡ has_pair pairs g n
  more_apart q place g n is other = is g n ∙ ap (λ t. (is_carried_by g q.by && t) || has_pair pairs g n) (ne_eqb place n other) ∙ left_out (is_carried_by g q.by) (has_pair pairs g n)

  less_apart : (q : Queued) (place g n : ℕ) → IsLess q place → (place ≡ n → ⊥) → has_pair after g n ≡ has_pair pairs g n
  less_apart q place g n is other = is g n ∙ ap (λ t. cond (is_carried_by g q.by && t) false (has_pair pairs g n)) (ne_eqb place n other) ∙ stays (is_carried_by g q.by) (has_pair pairs g n)

  -- where the one that has gone stood
  less_there : (q : Queued) (place g n : ℕ) → IsLess q place → place ≡ n → has_pair pairs g n ≡ is_carried_by g q.by → has_pair after g n ≡ false
  less_there q place g n is same was =
      is g n
      ∙ ap (λ t. cond (is_carried_by g q.by && t) false (has_pair pairs g n)) (eq-eqb place n same)
      ∙ ap (λ t. cond (is_carried_by g q.by && true) false t) was
      ∙ gone (is_carried_by g q.by)

  pub placed_more : (queue : List Queued) (q : Queued) → IsMore q (first + length queue) → ArePlaced queue first pairs → ArePlaced (queue ++ q ∷ []) first after
  placed_more queue q is are = record {
    here = λ g i. by g i (cases_eq (length queue) i);
    before = λ g n below. more_apart q (first + length queue) g n is (λ same. absurd (omega (arith, same, below))) ∙ are.before g n below;
  } where
    by : (g i : ℕ) → (length queue ≡ i) ⊎ (length queue ≡ i → ⊥) → has_pair after g (first + i) ≡ is_carried_at g (queue ++ q ∷ []) i
    by g i (inl same) =
        let was = are.here g i ∙ ap (is_carried_if_here g) (slice_get_past queue i (omega (arith, same))) in
        is g (first + i)
        ∙ ap (λ t. (is_carried_by g q.by && t) || has_pair pairs g (first + i)) (eq-eqb (first + length queue) (first + i) (ap (λ n. first + n) same))
        ∙ ap (λ t. (is_carried_by g q.by && true) || t) was
        ∙ alone (is_carried_by g q.by)
        ∙ sym (ap (is_carried_if_here g) (ap (slice_get (queue ++ q ∷ [])) (sym same) ∙ end_here queue q))
    by g i (inr other) =
        more_apart q (first + length queue) g (first + i) is (λ same. other (omega (arith, same)))
        ∙ are.here g i ∙ sym (ap (is_carried_if_here g) (before_end queue q i other))

  pub placed_less : (queue rest : List Queued) (q : Queued) → queue ≡ rest ++ q ∷ [] → IsLess q (first + length rest) → ArePlaced queue first pairs → ArePlaced rest first after
  placed_less queue rest q last is are = record {
    here = λ g i. by g i (cases_eq (length rest) i);
    before = λ g n below. less_apart q (first + length rest) g n is (λ same. absurd (omega (arith, same, below))) ∙ are.before g n below;
  } where
    by : (g i : ℕ) → (length rest ≡ i) ⊎ (length rest ≡ i → ⊥) → has_pair after g (first + i) ≡ is_carried_at g rest i
    by g i (inl same) =
        less_there q (first + length rest) g (first + i) is (ap (λ n. first + n) same)
        (are.here g i ∙ ap (is_carried_if_here g) (ap (λ l. slice_get l i) last ∙ ap (slice_get (rest ++ q ∷ [])) (sym same) ∙ end_here rest q))
        ∙ sym (ap (is_carried_if_here g) (slice_get_past rest i (omega (arith, same))))
    by g i (inr other) =
        less_apart q (first + length rest) g (first + i) is (λ same. other (omega (arith, same)))
        ∙ are.here g i ∙ ap (is_carried_if_here g) (ap (λ l. slice_get l i) last ∙ before_end rest q i other)

  pub placed_rest : (queue rest : List Queued) (q : Queued) → queue ≡ q ∷ rest → IsLess q first → ArePlaced queue first pairs → ArePlaced rest (first + 1) after
  placed_rest queue rest q head is are = record {
    here = λ g i.
        let next : first + 1 + i ≡ first + suc i = omega arith in
        less_apart q first g (first + 1 + i) is (λ same. absurd (omega (arith, same)))
        ∙ ap (has_pair pairs g) next ∙ are.here g (suc i) ∙ ap (λ l. is_carried_at g l (suc i)) head;
    before = λ g n below. by g n below (cases_eq first n);
  } where
    by : (g n : ℕ) → n < first + 1 → (first ≡ n) ⊎ (first ≡ n → ⊥) → has_pair after g n ≡ false
    by g n below (inl same) =
        let place : n ≡ first + 0 = omega (arith, same) in
        less_there q first g n is same (ap (has_pair pairs g) place ∙ are.here g 0 ∙ ap (λ l. is_carried_at g l 0) head)
    by g n below (inr other) =
        let under : n < first = omega (arith, below, other) in
        less_apart q first g n is other ∙ are.before g n under

-- ---- one that is released

carried_once : (g h : ℕ) (by : SentBy) → is_carried_by g by ≡ true → (g ≡ h → ⊥) → is_carried_by h by ≡ false
carried_once g h Outside is other = refl
carried_once g h (Commit point) is other = refl
carried_once g h (Carried k) is other = ne_eqb k h (λ same. other (sym (eqb-true k g is) ∙ same))

pub released_outside : (g : ℕ) (by : SentBy) → is_carried_by g by ≡ true → released_by g by ≡ Outside
released_outside g Outside is = refl
released_outside g (Commit point) is = cc
released_outside g (Carried k) is = ap (λ b. cond b Outside (Carried k)) is

carried_if : (h : ℕ) (there : Option Queued) (q : Queued) → there ≡ Some q → is_carried_if_here h there ≡ is_carried_by h q.by
carried_if h there q is = ap (is_carried_if_here h) is

pub placed_released : (queue : List Queued) (first : ℕ) (pairs after : List (ℕ × ℕ)) (g i place : ℕ) (x y : Queued) → place ≡ first + i → slice_get queue i ≡ Some x → is_carried_by g x.by ≡ true → y.by ≡ Outside
    → ((h n : ℕ) → has_pair after h n ≡ cond ((g == h) && (place == n)) false (has_pair pairs h n)) → ArePlaced queue first pairs → ArePlaced (slice_set queue i y) first after
placed_released queue first pairs after g i place x y at here carried free is are = record {
  here = λ h j. by h j (cases_eq i j);
  before = λ h n below. apart h n (λ same. absurd (omega (arith, same, at, below))) ∙ are.before h n below;
} where
  apart : (h n : ℕ) → (place ≡ n → ⊥) → has_pair after h n ≡ has_pair pairs h n
  apart h n other = is h n ∙ ap (λ t. cond ((g == h) && t) false (has_pair pairs h n)) (ne_eqb place n other) ∙ stays (g == h) (has_pair pairs h n)

  none : (h : ℕ) → (g ≡ h) ⊎ (g ≡ h → ⊥) → cond ((g == h) && true) false (is_carried_by h x.by) ≡ false
  none h (inl same) = ap (λ t. cond (t && true) false (is_carried_by h x.by)) (eq-eqb g h same)
  none h (inr other) = ap (λ t. cond (t && true) false (is_carried_by h x.by)) (ne_eqb g h other) ∙ carried_once g h x.by carried other

  by : (h j : ℕ) → (i ≡ j) ⊎ (i ≡ j → ⊥) → has_pair after h (first + j) ≡ is_carried_at h (slice_set queue i y) j
  by h j (inl same) =
      is h (first + j)
      ∙ ap (λ t. cond ((g == h) && t) false (has_pair pairs h (first + j))) (eq-eqb place (first + j) (at ∙ ap (λ n. first + n) same))
      ∙ ap (λ t. cond ((g == h) && true) false t) (are.here h j ∙ carried_if h (slice_get queue j) x (ap (slice_get queue) (sym same) ∙ here))
      ∙ none h (cases_eq g h)
      ∙ sym (ap (is_carried_by h) free)
      ∙ sym (carried_if h (slice_get (slice_set queue i y) j) y (ap (slice_get (slice_set queue i y)) (sym same) ∙ set_here queue i x y here))
  by h j (inr other) =
      apart h (first + j) (λ same. other (omega (arith, same, at)))
      ∙ are.here h j ∙ sym (ap (is_carried_if_here h) (set_elsewhere queue i j y other))

-- ---- what the pairs say of a queue

none_carried : (g : ℕ) (queue : List Queued) → ((i : ℕ) → is_carried_at g queue i ≡ false) → has_carried g queue ≡ false
none_carried g [] none = refl
none_carried g (q ∷ qs) none = or_from (is_carried_by g q.by) (has_carried g qs) (none 0) (none_carried g qs (λ i. none (suc i)))

-- where none has a place from one on
pub none_placed : (queue : List Queued) (first limit : ℕ) (pairs : List (ℕ × ℕ)) (g from : ℕ) → ArePlaced queue first pairs → first + length queue ≤ limit
    → ((n : ℕ) → first + from ≤ n → n < limit → has_pair pairs g n ≡ false) → has_carried g (drop from queue) ≡ false
none_placed queue first limit pairs g from are fits none =
    none_carried g (drop from queue) (λ k. ap (is_carried_if_here g) (get_drop from k queue) ∙ by (from + k) (omega arith) (cases_lt (from + k) (length queue))) where
      by : (i : ℕ) → from ≤ i → (i < length queue) ⊎ (length queue ≤ i) → is_carried_at g queue i ≡ false
      by i upto (inl below) = sym (are.here g i) ∙ none (first + i) (omega (arith, upto)) (omega (arith, below, fits))
      by i upto (inr past) = ap (is_carried_if_here g) (slice_get_past queue i past)

-- what has a place is there
pub record IsThere (queue : List Queued) (first g place : ℕ) : Type 0 where
  pub from : first ≤ place
  pub queued : Queued
  pub here : slice_get queue (place - first) ≡ Some queued
  pub carried : is_carried_by g queued.by ≡ true

pub place_there : (queue : List Queued) (first : ℕ) (pairs : List (ℕ × ℕ)) (g place : ℕ) → ArePlaced queue first pairs → has_pair pairs g place ≡ true → IsThere queue first g place
place_there queue first pairs g place are has = by (cases_lt place first) where
  at : first ≤ place → is_carried_at g queue (place - first) ≡ true
  at from =
      let same : place ≡ first + (place - first) = omega (arith, from) in
      sym (are.here g (place - first)) ∙ ap (has_pair pairs g) (sym same) ∙ has

  there : (from : first ≤ place) (o : Option Queued) → slice_get queue (place - first) ≡ o → is_carried_if_here g o ≡ true → IsThere queue first g place
  there from None here carried = absurd cc
  there from (Some q) here carried = record { from = from; queued = q; here = here; carried = carried }

  by : (place < first) ⊎ (first ≤ place) → IsThere queue first g place
  by (inl below) = absurd (no (has_pair pairs g place) has (are.before g place below)) where
    no : (b : Bool) → b ≡ true → b ≡ false → ⊥
    no b is isnt = cc
  by (inr from) = there from (slice_get queue (place - first)) refl (at from)

-- and it is what is read there
pub read_there : (queue : List Queued) (first g place : ℕ) (x : Queued) → IsThere queue first g place → x ≡ get_or queue (place - first) x
    → (slice_get queue (place - first) ≡ Some x) × (is_carried_by g x.by ≡ true)
read_there queue first g place x there is =
    let same : x ≡ there.queued = is ∙ get_or_from_slice_get queue (place - first) there.queued x there.here in
    (there.here ∙ ap Some (sym same), ap (λ (q : Queued). is_carried_by g q.by) same ∙ there.carried)
