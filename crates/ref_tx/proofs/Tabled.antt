-- What the operations of a transaction say of each ref: the table of the first, and the last ones after it.
use Rattle.std.proofs.Common.{◌≡◌, ℕ, zero, suc, ◌==◌, ◌+◌, ◌<◌, ◌-◌, ◌&&◌, ◌||◌, not, Bool, true, false, if◌then◌else◌, cond, List, [], ◌∷◌, ◌++◌, Option, None, Some, length, take, drop, get_or, slice_get, subst, refl, sym, ap, ◌∙◌, arith}
use Rattle.std.specs.BTreeMap.{BTreeMap, get, is_at}
use Rattle.std.specs.Map.{lookup}
use Rattle.std.specs.Cmp.{unsigned_tied}
use Rattle.std.specs.Option.{option_or}
use Rattle.std.specs.Ordering.{eq_by_cmp, nat_cmp}
use Rattle.std.proofs.lemmas.Bool.{eqb-true, eq-eqb, ne_eqb}
use Rattle.std.proofs.lemmas.List.{append_assoc, append-nil, length-drop, take-append-drop}
use Rattle.std.proofs.lemmas.List.Folds.{list_any-append}
use Rattle.std.proofs.Math.Seq.{take-length, take-suc}
use Rattle.ref_value.specs.Edn.{Edn}
use Rattle.ref_fun.specs.Meaning.{Means}
use Rattle.ref_log.specs.Replay.{is_commute, is_protected}
use Rattle.ref_log.specs.declared.operations.Done.{Done}
use Rattle.ref_tx.specs.declared.tables.Own.{Own}
use Rattle.ref_tx.specs.declared.tables.Table.{Table}
use Rattle.ref_tx.specs.Inner.{is_commuted, value_after, AreAnswers}
use Rattle.ref_tx.specs.Own.{own_value, own_commuted, own_protected, IsTableOf, IsTabled, last_on}
use Rattle.ref_tx.specs.Laws.{value_after-elsewhere}

-- ---- one operation more in the table

own_here : (b : Bool) (o : Own) (former : Option Own) (began after : Option Edn) → (b ≡ true → Some o.value ≡ after) → (b ≡ false → own_value former began ≡ after) → own_value (cond b (Some o) former) began ≡ after
own_here true o former began after here elsewhere = here refl
own_here false o former began after here elsewhere = elsewhere refl

or_false : (b : Bool) → (b || false) ≡ b
or_false true = refl
or_false false = refl

-- what the table tells of a ref by yes or no
told_here : (tells : Option Own → Bool) (b now : Bool) (before : Bool) (o : Own) (former : Option Own) → tells former ≡ before → (b ≡ true → tells (Some o) ≡ (before || now)) → tells (cond b (Some o) former) ≡ (before || (b && now))
told_here tells true now before o former is here = here refl
told_here tells false now before o former is here = is ∙ sym (or_false before)

is_commuted_more : (ds : List Done) (d : Done) (q : ℕ) → is_commuted (ds ++ d ∷ []) q ≡ (is_commuted ds q || (d.r == q && is_commute d.op))
is_commuted_more ds d q =
    let on : Done → Bool = λ x. x.r == q && is_commute x.op in
    list_any-append on ds (d ∷ []) ∙ ap (λ b. is_commuted ds q || b) (or_false (d.r == q && is_commute d.op))

is_protected_more : (ds : List Done) (d : Done) (q : ℕ) → is_protected (ds ++ d ∷ []) q ≡ (is_protected ds q || (d.r == q && not (is_commute d.op)))
is_protected_more ds d q =
    let on : Done → Bool = λ x. x.r == q && not (is_commute x.op) in
    list_any-append on ds (d ∷ []) ∙ ap (λ b. is_protected ds q || b) (or_false (d.r == q && not (is_commute d.op)))

-- what the table has of a ref after its operation
abbrev own_of : Edn → Bool → Bool → Own
own_of v commuted protected = record { value = v; commuted = commuted; protected = protected }

-- the table after one operation more
pub table_more : (means : Means) (began : List Edn) (ds : List Done) (d : Done) (commuted protected : Bool) (own new : ℕ → Option Own) → IsTableOf means began ds own
    → value_after means began (ds ++ d ∷ []) d.r ≡ Some d.answer
    → commuted ≡ (is_commuted ds d.r || is_commute d.op)
    → protected ≡ (is_protected ds d.r || not (is_commute d.op))
    → ((q : ℕ) → new q ≡ cond (d.r == q) (Some (own_of d.answer commuted protected)) (own q))
    → IsTableOf means began (ds ++ d ∷ []) new
table_more means began ds d commuted protected own new is gives commutes protects updates = record {
  values = λ q. ap (λ o. own_value o (slice_get began q)) (updates q)
      ∙ own_here (d.r == q) (own_of d.answer commuted protected) (own q) (slice_get began q) (value_after means began (ds ++ d ∷ []) q)
      (λ here. sym (ap (value_after means began (ds ++ d ∷ [])) (sym (eqb-true d.r q here)) ∙ gives))
      (λ elsewhere. is.values q ∙ sym (value_after-elsewhere means began ds d q elsewhere));
  commuted = λ q. ap own_commuted (updates q)
      ∙ told_here own_commuted (d.r == q) (is_commute d.op) (is_commuted ds q) (own_of d.answer commuted protected) (own q) (is.commuted q)
      (λ here. commutes ∙ ap (λ r. is_commuted ds r || is_commute d.op) (eqb-true d.r q here))
      ∙ sym (is_commuted_more ds d q);
  protected = λ q. ap own_protected (updates q)
      ∙ told_here own_protected (d.r == q) (not (is_commute d.op)) (is_protected ds q) (own_of d.answer commuted protected) (own q) (is.protected q)
      (λ here. protects ∙ ap (λ r. is_protected ds r || not (is_commute d.op)) (eqb-true d.r q here))
      ∙ sym (is_protected_more ds d q);
}

-- the order of numbers tells apart what differs
pub tied : (x y : ℕ) → eq_by_cmp nat_cmp x y ≡ (x == y)
tied x y = unsigned_tied x y

-- a table with the same entries
pub table_same : (means : Means) (began : List Edn) (ds : List Done) (m n : BTreeMap ℕ Own) → n.entries ≡ m.entries → IsTableOf means began ds (get nat_cmp m) → IsTableOf means began ds (get nat_cmp n)
table_same means began ds m n same is = record {
  values = λ q. ap (λ es. own_value (lookup (is_at (nat_cmp q)) es) (slice_get began q)) same ∙ is.values q;
  commuted = λ q. ap (λ es. own_commuted (lookup (is_at (nat_cmp q)) es)) same ∙ is.commuted q;
  protected = λ q. ap (λ es. own_protected (lookup (is_at (nat_cmp q)) es)) same ∙ is.protected q;
}

-- ---- the last answer

next_one : (ds : List Done) (i : ℕ) (d : Done) → i < length ds → d ≡ get_or ds i d → take (i + 1) ds ≡ take i ds ++ d ∷ []
next_one ds i d below at =
    let suc_of : i + 1 ≡ suc i = omega arith in
    ap (λ n. take n ds) suc_of ∙ take-suc ds i d below ∙ ap (λ x. take i ds ++ x ∷ []) (sym at)

pub last_more : (r : ℕ) (ds : List Done) (d : Done) → last_on r (ds ++ d ∷ []) ≡ (if d.r == r then Some d.answer else last_on r ds)
last_more r [] d = refl
last_more r (x ∷ ds) d = ap (λ o. option_or o (if x.r == r then Some x.answer else None)) (last_more r ds d) ∙ by (d.r == r)
  where
    by : (b : Bool) → option_or (if b then Some d.answer else last_on r ds) (if x.r == r then Some x.answer else None) ≡ (if b then Some d.answer else option_or (last_on r ds) (if x.r == r then Some x.answer else None))
    by true = refl
    by false = refl

pub last_then : (r : ℕ) (ds : List Done) (i : ℕ) (d : Done) → i < length ds → d ≡ get_or ds i d → d.r ≡ r → Some d.answer ≡ last_on r (take (i + 1) ds)
last_then r ds i d below at here = sym (ap (last_on r) (next_one ds i d below at) ∙ last_more r (take i ds) d ∙ ap (λ b. if b then Some d.answer else last_on r (take i ds)) (eq-eqb d.r r here))

pub last_else : (r : ℕ) (ds : List Done) (i : ℕ) (d : Done) → i < length ds → d ≡ get_or ds i d → (d.r ≡ r → ⊥) → last_on r (take i ds) ≡ last_on r (take (i + 1) ds)
last_else r ds i d below at here = sym (ap (last_on r) (next_one ds i d below at) ∙ last_more r (take i ds) d ∙ ap (λ b. if b then Some d.answer else last_on r (take i ds)) (ne_eqb d.r r here))

or_assoc : {X : Type 0} (a b c : Option X) → option_or (option_or a b) c ≡ option_or a (option_or b c)
or_assoc None b c = refl
or_assoc (Some x) b c = refl

-- The operations that come later answered what is last.
value_last : (means : Means) (began : List Edn) (r : ℕ) (former ds : List Done) → AreAnswers means began former ds → value_after means began (former ++ ds) r ≡ option_or (last_on r ds) (value_after means began former r)
value_last means began r former [] are = ap (λ l. value_after means began l r) (append-nil former)
value_last means began r former (d ∷ ds) are =
    ap (λ l. value_after means began l r) (sym (append_assoc former (d ∷ []) ds))
    ∙ value_last means began r (former ++ d ∷ []) ds are.1
    ∙ ap (option_or (last_on r ds)) (by (d.r == r) refl)
    ∙ sym (or_assoc (last_on r ds) (if d.r == r then Some d.answer else None) (value_after means began former r))
  where
    by : (b : Bool) → (d.r == r) ≡ b → value_after means began (former ++ d ∷ []) r ≡ option_or (if b then Some d.answer else None) (value_after means began former r)
    by true here = ap (value_after means began (former ++ d ∷ [])) (sym (eqb-true d.r r here)) ∙ are.0
    by false elsewhere = value_after-elsewhere means began former d r elsewhere

are_rest : (means : Means) (began : List Edn) (former ds es : List Done) → AreAnswers means began former (ds ++ es) → AreAnswers means began (former ++ ds) es
are_rest means began former [] es are = subst (λ l. AreAnswers means began l es) (sym (append-nil former)) are
are_rest means began former (d ∷ ds) es are = subst (λ l. AreAnswers means began l es) (append_assoc former (d ∷ []) ds) (are_rest means began (former ++ d ∷ []) ds es are.1)

-- ---- the first operations and the others

pub rest_whole : (n : ℕ) (ds : List Done) → take (length ds - n) (drop n ds) ≡ drop n ds
rest_whole n ds = ap (λ m. take m (drop n ds)) (sym (length-drop n ds)) ∙ take-length (drop n ds)

pub last_is : (means : Means) (began : List Edn) (ds : List Done) (table : Table) (r : ℕ) → AreAnswers means began [] ds → IsTabled means began ds table
    → option_or (last_on r (drop table.first ds)) (own_value (get nat_cmp table.own r) (slice_get began r)) ≡ value_after means began ds r
last_is means began ds table r are is =
    ap (option_or (last_on r (drop table.first ds))) (is.has.values r)
    ∙ sym (value_last means began r (take table.first ds) (drop table.first ds) (are_rest means began [] (take table.first ds) (drop table.first ds) (subst (AreAnswers means began []) (sym (take-append-drop table.first ds)) are)))
    ∙ ap (λ l. value_after means began l r) (take-append-drop table.first ds)

pub commuted_is : (means : Means) (began : List Edn) (ds : List Done) (table : Table) (r : ℕ) → IsTabled means began ds table
    → (own_commuted (get nat_cmp table.own r) || is_commuted (drop table.first ds) r) ≡ is_commuted ds r
commuted_is means began ds table r is =
    let on : Done → Bool = λ d. d.r == r && is_commute d.op in
    ap (λ b. b || is_commuted (drop table.first ds) r) (is.has.commuted r)
    ∙ sym (list_any-append on (take table.first ds) (drop table.first ds))
    ∙ ap (λ l. is_commuted l r) (take-append-drop table.first ds)

pub protected_is : (means : Means) (began : List Edn) (ds : List Done) (table : Table) (r : ℕ) → IsTabled means began ds table
    → (own_protected (get nat_cmp table.own r) || is_protected (drop table.first ds) r) ≡ is_protected ds r
protected_is means began ds table r is =
    let on : Done → Bool = λ d. d.r == r && not (is_commute d.op) in
    ap (λ b. b || is_protected (drop table.first ds) r) (is.has.protected r)
    ∙ sym (list_any-append on (take table.first ds) (drop table.first ds))
    ∙ ap (λ l. is_protected l r) (take-append-drop table.first ds)

-- a test of the table and then of the others
pub or_then : (a b c : Bool) → (a || b) ≡ c → a ≡ true → a ≡ c
or_then true b c e t = e
or_then false b c e t = absurd cc

pub or_else : (a b c : Bool) → (a || b) ≡ c → a ≡ false → b ≡ c
or_else true b c e f = absurd cc
or_else false b c e f = e

-- ---- one more of them in the table

-- the answer of one of them
answer_at : (means : Means) (began : List Edn) (ds : List Done) (i : ℕ) (d : Done) → AreAnswers means began [] ds → i < length ds → d ≡ get_or ds i d → value_after means began (take i ds ++ d ∷ []) d.r ≡ Some d.answer
answer_at means began ds i d are below is =
    (are_rest means began [] (take i ds) (d ∷ drop (suc i) ds) (subst (AreAnswers means began []) (sym (split ds i d below is)) are)).0
  where
    split : (xs : List Done) (n : ℕ) (x : Done) → n < length xs → x ≡ get_or xs n x → take n xs ++ x ∷ drop (suc n) xs ≡ xs
    split [] n x low at = absurd (omega (arith, low))
    split (y ∷ xs) zero x low at = ap (λ z. z ∷ xs) at
    split (y ∷ xs) (suc n) x low at = ap (λ l. y ∷ l) (split xs n x (omega (arith, low)) at)

pub tabled_next : (means : Means) (began : List Edn) (ds : List Done) (d : Done) (table new : Table) (own : Own) → AreAnswers means began [] ds → IsTabled means began ds table
    → table.first < length ds
    → d ≡ get_or ds table.first d
    → (former : Option Own) → former ≡ get nat_cmp table.own d.r
    → own ≡ own_of d.answer (own_commuted former || is_commute d.op) (own_protected former || not (is_commute d.op))
    → ((q : ℕ) → get nat_cmp new.own q ≡ cond (d.r == q) (Some own) (get nat_cmp table.own q))
    → new.first ≡ table.first + 1
    → IsTabled means began ds new
tabled_next means began ds d table new own are is below at former was owned updates next =
    let owns = owned ∙ ap (λ o. own_of d.answer (own_commuted o || is_commute d.op) (own_protected o || not (is_commute d.op))) was in record {
      within = omega (arith, below, next);
      has = subst (λ l. IsTableOf means began l (get nat_cmp new.own))
          (sym (next_one ds table.first d below at) ∙ ap (λ n. take n ds) (sym next))
          (table_more means began (take table.first ds) d (own_commuted (get nat_cmp table.own d.r) || is_commute d.op) (own_protected (get nat_cmp table.own d.r) || not (is_commute d.op)) (get nat_cmp table.own) (get nat_cmp new.own) is.has
          (answer_at means began ds table.first d are below at)
          (ap (λ b. b || is_commute d.op) (is.has.commuted d.r))
          (ap (λ b. b || not (is_commute d.op)) (is.has.protected d.r))
          (λ q. updates q ∙ ap (λ o. cond (d.r == q) (Some o) (get nat_cmp table.own q)) owns));
    }
