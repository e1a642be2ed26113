use Rattle.std.proofs.Common.{Less, Greater, ◌≡◌, ℕ, ◌+◌, ◌<◌, ◌≤◌, Bool, true, false, List, length, Option, None, Some, IfSome, slice_get, nat_lt, ne_eqb, inl, inr, ◌⊎◌, ◌∙◌, ap, arith, refl, subst, sym}
use Rattle.std.specs.Ordering.{is_eq, nat_cmp}
use Rattle.std.proofs.lemmas.Bool.{cases_eq, cases_lt}
use Rattle.std.proofs.lemmas.Option.{slice_get_past}
use Rattle.ref_log.specs.declared.entries.Entry.TheVariants.{Trans, Atom, MadeRef, MadeAtom}
use mathlib.Core.Bool.{cond}
use Rattle.ref_shared.specs.Gather.{InOrder, transaction_of}
use Rattle.ref_shared.specs.Latest.{Follows, turn_of}
use Rattle.ref_log.specs.declared.entries.Entry.{Entry}
use Rattle.ref_log.specs.declared.entries.Transaction.{Transaction}
use Rattle.ref_shared.specs.declared.order.Turn.{Turn}

-- no earlier than this entry
abbrev pub Reaches : Option Turn → ℕ → Transaction → Type 0
Reaches None point t = ⊥
Reaches (Some turn) point t = (t.stamp.step ≤ turn.step) × (point ≤ turn.point)

-- an entry below k of this worker, with this turn
pub record Stands (base : ℕ) (log : List Entry) (k worker : ℕ) (turn : Turn) : Type 0 where
  pub at : ℕ
  pub t : Transaction
  pub below : at < k
  pub here : transaction_of (slice_get log at) ≡ Some t
  pub worker_is : t.stamp.worker ≡ worker
  pub step_is : turn.step ≡ t.stamp.step
  pub point_is : turn.point ≡ base + 1 + at

-- the first k entries are in order, and of each worker the latest of them is known
pub record Known (base : ℕ) (log : List Entry) (k : ℕ) (latest : ℕ → Option Turn) : Type 0 where
  pub ordered : (i j : ℕ) (t u : Transaction) → j < k → i < j
      → transaction_of (slice_get log i) ≡ Some t → transaction_of (slice_get log j) ≡ Some u
      → t.stamp.worker ≡ u.stamp.worker
      → (t.stamp.step < u.stamp.step) × (base + 1 + i ≤ u.read_point)
  pub reached : (i : ℕ) (t : Transaction) → i < k → transaction_of (slice_get log i) ≡ Some t → Reaches (latest t.stamp.worker) (base + 1 + i) t
  pub from : (worker : ℕ) → IfSome (latest worker) (Stands base log k worker)

same_Some : (t u : Transaction) → Some t ≡ Some u → t ≡ u
same_Some t u h = cc

none_Some : (t : Transaction) → None ≡ Some t → ⊥
none_Some t h = cc

later : (base : ℕ) (log : List Entry) (k worker : ℕ) (turn : Turn) → Stands base log k worker turn → Stands base log (k + 1) worker turn
later base log k worker turn s = record {
  at = s.at;
  t = s.t;
  below = omega (arith, s.below);
  here = s.here;
  worker_is = s.worker_is;
  step_is = s.step_is;
  point_is = s.point_is;
}

later_all : (base : ℕ) (log : List Entry) (k worker : ℕ) (o : Option Turn) → IfSome o (Stands base log k worker) → IfSome o (Stands base log (k + 1) worker)
later_all base log k worker None s = tt
later_all base log k worker (Some turn) s = later base log k worker turn s

below_or_at : (i k : ℕ) → i < k + 1 → (i < k) ⊎ (i ≡ k)
below_or_at i k h = elim (cases_lt i k) [ inl l ↦ inl l | inr g ↦ inr (omega (arith, h, g)) ]

-- an entry that is no transaction
pub known_still : (base : ℕ) (log : List Entry) (k : ℕ) (latest : ℕ → Option Turn)
    → Known base log k latest → transaction_of (slice_get log k) ≡ None → Known base log (k + 1) latest
known_still base log k latest s none = record {
  ordered = λ i j t u below lt ht hu w. elim (below_or_at j k below) [
    | inl l ↦ s.ordered i j t u l lt ht hu w
    | inr e ↦ absurd (none_Some u (sym none ∙ (ap (λ z. transaction_of (slice_get log z)) (sym e) ∙ hu)))
  ];
  reached = λ i t below ht. elim (below_or_at i k below) [
    | inl l ↦ s.reached i t l ht
    | inr e ↦ absurd (none_Some t (sym none ∙ (ap (λ z. transaction_of (slice_get log z)) (sym e) ∙ ht)))
  ];
  from = λ worker. later_all base log k worker (latest worker) (s.from worker);
}

-- what comes after the latest comes after all that it reaches
follows_all : (o : Option Turn) (point : ℕ) (t u : Transaction) → Reaches o point t → Follows o u → (t.stamp.step < u.stamp.step) × (point ≤ u.read_point)
follows_all None point t u r f = absurd r
follows_all (Some turn) point t u r f = (omega (arith, r.0, f.0), omega (arith, r.1, f.1))

reaches_on : (o : Option Turn) (point next : ℕ) (t u : Transaction) → Reaches o point t → Follows o u → point < next → Reaches (Some (turn_of u next)) point t
reaches_on None point next t u r f l = absurd r
reaches_on (Some turn) point next t u r f l = (omega (arith, r.0, f.0), omega (arith, l))

-- a transaction that may come after the latest of its worker
pub known_more : (base : ℕ) (log : List Entry) (k : ℕ) (latest next : ℕ → Option Turn) (u : Transaction)
    → Known base log k latest → transaction_of (slice_get log k) ≡ Some u → Follows (latest u.stamp.worker) u
    → next u.stamp.worker ≡ Some (turn_of u (base + 1 + k)) → ((q : ℕ) → (q ≡ u.stamp.worker → ⊥) → next q ≡ latest q)
    → Known base log (k + 1) next
known_more base log k latest next u s here follows mine others = record {
  ordered = λ i j t v below lt ht hv w. elim (below_or_at j k below) [
    | inl l ↦ s.ordered i j t v l lt ht hv w
    | inr e ↦
        let same = same_Some u v (sym here ∙ (ap (λ z. transaction_of (slice_get log z)) (sym e) ∙ hv)) in
        follows_all (latest u.stamp.worker) (base + 1 + i) t v
        (subst (λ z. Reaches (latest z) (base + 1 + i) t) (w ∙ ap (λ (z : Transaction). z.stamp.worker) (sym same)) (s.reached i t (omega (arith, lt, e)) ht))
        (subst (λ z. Follows (latest u.stamp.worker) z) same follows)
  ];
  reached = λ i t below ht. elim (below_or_at i k below) [
    | inl l ↦ elim (cases_eq t.stamp.worker u.stamp.worker) [
      | inl q ↦ subst (λ z. Reaches z (base + 1 + i) t) (sym (ap next q ∙ mine))
          (reaches_on (latest u.stamp.worker) (base + 1 + i) (base + 1 + k) t u (subst (λ z. Reaches (latest z) (base + 1 + i) t) q (s.reached i t l ht)) follows (omega (arith, l)))
      | inr n ↦ subst (λ z. Reaches z (base + 1 + i) t) (sym (others t.stamp.worker n)) (s.reached i t l ht)
    ]
    | inr e ↦
        let same = same_Some u t (sym here ∙ (ap (λ z. transaction_of (slice_get log z)) (sym e) ∙ ht)) in
        subst (λ z. Reaches z (base + 1 + i) t) (sym (ap next (ap (λ (z : Transaction). z.stamp.worker) (sym same)) ∙ mine))
        (omega (arith, ap (λ (z : Transaction). z.stamp.step) same), omega (arith, e))
  ];
  from = λ worker. elim (cases_eq worker u.stamp.worker) [
    | inl q ↦ subst (λ z. IfSome z (Stands base log (k + 1) worker)) (sym (ap next q ∙ mine))
        (record { at = k; t = u; below = omega arith; here = here; worker_is = sym q; step_is = refl; point_is = refl })
    | inr n ↦ subst (λ z. IfSome z (Stands base log (k + 1) worker)) (sym (others worker n)) (later_all base log k worker (latest worker) (s.from worker))
  ];
}

breaks_at : (base : ℕ) (log : List Entry) (k : ℕ) (u : Transaction) (o : Option Turn)
    → IfSome o (Stands base log k u.stamp.worker) → transaction_of (slice_get log k) ≡ Some u → (Follows o u → ⊥) → InOrder base log → ⊥
breaks_at base log k u None s here unfit all = unfit tt
breaks_at base log k u (Some turn) s here unfit all =
    let both = all s.at k s.t u s.below s.here here s.worker_is in
    unfit (omega (arith, both.0, s.step_is), omega (arith, both.1, s.point_is))

-- one that may not
pub known_breaks : (base : ℕ) (log : List Entry) (k : ℕ) (latest : ℕ → Option Turn) (u : Transaction)
    → Known base log k latest → transaction_of (slice_get log k) ≡ Some u → (Follows (latest u.stamp.worker) u → ⊥) → InOrder base log → ⊥
known_breaks base log k latest u s here unfit all = breaks_at base log k u (latest u.stamp.worker) (s.from u.stamp.worker) here unfit all

within_at : (log : List Entry) (j : ℕ) (u : Transaction) → transaction_of (slice_get log j) ≡ Some u → j < length log
within_at log j u h = elim (cases_lt j (length log)) [
  | inl l ↦ l
  | inr g ↦ absurd (none_Some u (sym (ap transaction_of (slice_get_past log j g)) ∙ h))
]

-- all entries
pub known_all : (base : ℕ) (log : List Entry) (k : ℕ) (latest : ℕ → Option Turn) → Known base log k latest → length log ≤ k → InOrder base log
known_all base log k latest s end i j t u lt ht hu w = s.ordered i j t u (omega (arith, within_at log j u hu, end)) lt ht hu w

either_way : (b : Bool) → is_eq (cond b Less Greater) ≡ false
either_way true = refl
either_way false = refl

pub other_key : (k q : ℕ) → (q ≡ k → ⊥) → is_eq (nat_cmp k q) ≡ false
other_key k q n = rw (ne_eqb k q (λ e. n (sym e))) (either_way (nat_lt k q))

pub trans_at : (log : List Entry) (i : ℕ) (e : Entry) (t : Transaction)
    → slice_get log i ≡ Some e → e ≡ Trans t → transaction_of (slice_get log i) ≡ Some t
trans_at log i e t here h = ap transaction_of (here ∙ ap Some h)

no_trans : (e : Entry) → ((t : Transaction) → e ≡ Trans t → ⊥) → transaction_of (Some e) ≡ None
no_trans (Trans t) n = absurd (n t refl)
no_trans (Atom a op answer) n = refl
no_trans (MadeRef v) n = refl
no_trans (MadeAtom v) n = refl

pub no_trans_at : (log : List Entry) (i : ℕ) (e : Entry)
    → slice_get log i ≡ Some e → ((t : Transaction) → e ≡ Trans t → ⊥) → transaction_of (slice_get log i) ≡ None
no_trans_at log i e here n = ap transaction_of here ∙ no_trans e n
