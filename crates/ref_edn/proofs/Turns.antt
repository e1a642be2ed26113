-- The turns of the reader's loops over blanks and over what stands inside collections.
use Rattle.std.proofs.Common.{◌≡◌, ℕ, zero, suc, ◌<◌, ◌≤◌, Bool, true, false, cond, List, [], ◌∷◌, length, get_or, take, drop, ◌-◌, Result, Ok, Err, refl, sym, ap, ◌∙◌, arith, sub-one}
use Rattle.std.specs.Prelude.{◌==◌, ◌||◌, ⊤}
use Rattle.std.proofs.lemmas.Bool.{or_parts}
use Rattle.std.proofs.lemmas.Bool.Decides.{nat_tests}
use Rattle.ref_edn.specs.declared.faults.Fault.{Fault}
use Rattle.ref_edn.specs.declared.faults.Flaw.TheVariants.{TooDeep}
use Rattle.ref_edn.specs.declared.faults.ReadError.{ReadError}
use Rattle.ref_edn.specs.declared.faults.ReadError.TheVariants as errors
use Rattle.ref_edn.specs.Bytes.{is_space}
use Rattle.ref_edn.specs.Fronts.{may_be_blank}
use Rattle.ref_edn.specs.Grammar.{from_newline}
use Rattle.ref_edn.specs.Faults.{◌>>=◌, Fails, fault}
use Rattle.ref_edn.specs.ReadParts.{after_spaces, front_is_discard, discarded_at, vector_at, mapping_at, collection_at, single_at}
use Rattle.ref_edn.proofs.Tails.{tail_is}
use Rattle.ref_edn.specs.Reading.{is_discard, opens_set, skip_with, skip, read, read_with, vector_with, mapping_with, collection_with}

nonzero : (n : ℕ) → (suc n == 0) ≡ false
nonzero n = grind (arith, nat_tests)

-- ---- what stands one level deeper

pub discards : (room : ℕ) (at : List ℕ) → (skip room (drop 2 at) >>= λ start. read room start >>= λ x. Ok x.1) ≡ discarded_at (suc room) at
unfolding discarded_at
discards room at = rw (nonzero, sub-one) refl

discard_too_deep : (at : List ℕ) → fault TooDeep at ≡ discarded_at 0 at
unfolding discarded_at
discard_too_deep at = refl

pub skip_is : (room : ℕ) (text : List ℕ) → skip room text ≡ skip_with (discarded_at room) (length text) text
unfolding skip
skip_is zero text = λ i. skip_with (λ at. discard_too_deep at i) (length text) text
skip_is (suc room) text = λ i. skip_with (λ at. discards room at i) (length text) text

pub vectors : (room close : ℕ) (at : List ℕ) → vector_with (skip room) (read room) close at ≡ vector_at (suc room) close at
unfolding vector_at
vectors room close at = rw (nonzero, sub-one) refl

pub mappings : (room : ℕ) (at : List ℕ) → mapping_with (skip room) (read room) at ≡ mapping_at (suc room) at
unfolding mapping_at
mappings room at = rw (nonzero, sub-one) refl

pub collections : (room : ℕ) (at : List ℕ) → collection_with (skip room) (read room) at ≡ collection_at (suc room) at
unfolding collection_at
collections room at = rw (nonzero, sub-one) refl

vector_too_deep : (close : ℕ) (at : List ℕ) → fault TooDeep at ≡ vector_at 0 close at
unfolding vector_at
vector_too_deep close at = refl

mapping_too_deep : (at : List ℕ) → fault TooDeep at ≡ mapping_at 0 at
unfolding mapping_at
mapping_too_deep at = refl

collection_too_deep : (at : List ℕ) → fault TooDeep at ≡ collection_at 0 at
unfolding collection_at
collection_too_deep at = refl

pub read_is : (room : ℕ) (text : List ℕ) → read room text ≡ read_with (vector_at room) (mapping_at room) (collection_at room) text
unfolding read
read_is zero text = λ i. read_with (λ close at. vector_too_deep close at i) (λ at. mapping_too_deep at i) (λ at. collection_too_deep at i) text
read_is (suc room) text = λ i. read_with (λ close at. vectors room close at i) (λ at. mappings room at i) (λ at. collections room at i) text

not_set : (b : ℕ) (text : List ℕ) → (b == 35) ≡ false → opens_set b text ≡ false
not_set b [] is = refl
not_set b (c ∷ text) is = rw is refl

pub single_is : (room : ℕ) (text : List ℕ) → 0 < length text → (get_or text 0 0 == 91) ≡ false → (get_or text 0 0 == 40) ≡ false → (get_or text 0 0 == 123) ≡ false → (get_or text 0 0 == 35) ≡ false → read room text ≡ single_at text
unfolding read_with single_at
single_is room [] some square round curly hash = absurd (omega arith)
single_is room (b ∷ text) some square round curly hash = read_is room (b ∷ text) ∙ rw (square, round, curly, not_set b text hash) refl

-- ---- faults of a part

pub fails_so : {X Y : Type 0} (e : ReadError) (part : Result X Fault) (total : Result Y Fault) → ((f : Fault) → part ≡ Err f → total ≡ Err f) → Fails e part → Fails e total
fails_so errors.Memory part total so failed = tt
fails_so (errors.Fault f) part total so failed = so f failed

-- ---- blanks

abbrev Solid : List ℕ → Type 0
Solid [] = ⊤
Solid (b ∷ text) = is_space b ≡ false

-- The loop over blanks, where whitespace has just been passed.
pub record Skips (room : ℕ) (rest : List ℕ) (total : Result (List ℕ) Fault) : Type 0 where
  pub turns : ℕ
  pub enough : length rest ≤ turns
  pub same : skip_with (discarded_at room) turns rest ≡ total
  pub solid : Solid rest

pub step : (room turns : ℕ) (b : ℕ) (text : List ℕ)
    → skip_with (discarded_at room) (suc turns) (b ∷ text)
    ≡ cond (is_space b) (skip_with (discarded_at room) turns text) (cond (b == 59) (skip_with (discarded_at room) turns (from_newline text))
    (cond (is_discard b text) (discarded_at room (b ∷ text) >>= λ rest. skip_with (discarded_at room) turns rest) (Ok (b ∷ text))))
unfolding skip_with
step room turns b text = refl

passes : (room : ℕ) (rest : List ℕ) (total : Result (List ℕ) Fault) (turns : ℕ) → length rest ≤ turns → skip_with (discarded_at room) turns rest ≡ total → Skips room (after_spaces rest) total
passes room [] total turns enough same = record { turns = turns; enough = enough; same = same; solid = tt }
passes room (b ∷ text) total zero enough same = absurd (omega arith)
passes room (b ∷ text) total (suc turns) enough same = by (is_space b) refl (λ e. passes room text total turns (omega arith) (sym (step room turns b text ∙ rw e refl) ∙ same))
  where
    by : (is : Bool) → is_space b ≡ is → (is_space b ≡ true → Skips room (after_spaces text) total) → Skips room (cond is (after_spaces text) (b ∷ text)) total
    by true e more = more e
    by false e more = record { turns = suc turns; enough = enough; same = same; solid = e }

pub skips_start : (room : ℕ) (text : List ℕ) → Skips room (after_spaces text) (skip room text)
skips_start room text = passes room text (skip room text) (length text) (omega arith) (sym (skip_is room text))

-- where no blank begins, and behind one space
no_discard : (b : ℕ) (text : List ℕ) → (b == 35) ≡ false → is_discard b text ≡ false
no_discard b [] is = refl
no_discard b (c ∷ text) is = rw is refl

pub skips_none : (room : ℕ) (text : List ℕ) → may_be_blank text ≡ false → skip room text ≡ Ok text
unfolding skip_with
skips_none room [] none = skip_is room []
skips_none room (b ∷ text) none =
    let hash = or_parts (is_space b || b == 59) (b == 35) none in
    let two = or_parts (is_space b) (b == 59) hash.0 in
    skip_is room (b ∷ text) ∙ step room (length text) b text ∙ rw (two.0, two.1, no_discard b text hash.1) refl

space_passed : (room : ℕ) (text : List ℕ) → skip room (32 ∷ text) ≡ skip room text
space_passed room text = skip_is room (32 ∷ text) ∙ step room (length text) 32 text ∙ sym (skip_is room text)

behind_space : (room : ℕ) (text : List ℕ) → 0 < length text → get_or text 0 0 ≡ 32 → may_be_blank (drop 1 text) ≡ false → skip room text ≡ Ok (drop 1 text)
behind_space room [] some is none = absurd (omega arith)
behind_space room (b ∷ text) some is none = ap (λ (c : ℕ). skip room (c ∷ text)) is ∙ space_passed room text ∙ skips_none room text none

pub skips_space : (room : ℕ) (text : List ℕ) → 0 < length text → get_or text 0 0 ≡ 32 → may_be_blank (take (length text - 1) (drop 1 text)) ≡ false → skip room text ≡ Ok (take (length text - 1) (drop 1 text))
skips_space room text some is none =
    let tail = tail_is text some in
    rw tail (behind_space room text some is (ap may_be_blank (sym tail) ∙ none))

pub from_newline_shorter : (text : List ℕ) → length (from_newline text) ≤ length text
from_newline_shorter [] = omega arith
from_newline_shorter (b ∷ text) = by (b == 10) (from_newline_shorter text)
  where
    by : (is : Bool) → length (from_newline text) ≤ length text → length (cond is (b ∷ text) (from_newline text)) ≤ length (b ∷ text)
    by true h = omega arith
    by false h = omega arith

not_newline : (b : ℕ) → (b == 59) ≡ true → (b == 10) ≡ false
not_newline b is = grind (arith, nat_tests)

pub comment_shorter : (rest : List ℕ) → 0 < length rest → (get_or rest 0 0 == 59) ≡ true → length (from_newline rest) < length rest
comment_shorter [] some is = absurd (omega arith)
comment_shorter (b ∷ text) some is = rw (not_newline b is) (omega (arith, from_newline_shorter text))

pub skips_comment : (room : ℕ) (rest : List ℕ) (total : Result (List ℕ) Fault) → 0 < length rest → (get_or rest 0 0 == 59) ≡ true → Skips room rest total → Skips room (after_spaces (from_newline rest)) total
skips_comment room [] total some is s = absurd (omega arith)
skips_comment room (b ∷ text) total some is s = by s.turns s.enough s.same
  where
    by : (turns : ℕ) → length (b ∷ text) ≤ turns → skip_with (discarded_at room) turns (b ∷ text) ≡ total → Skips room (after_spaces (from_newline (b ∷ text))) total
    by zero enough same = absurd (omega arith)
    by (suc turns) enough same =
        rw (not_newline b is) (passes room (from_newline text) total turns (omega (arith, from_newline_shorter text)) (sym (step room turns b text ∙ rw (s.solid, is) refl) ∙ same))

pub skips_discard : (room : ℕ) (rest : List ℕ) (total : Result (List ℕ) Fault) (after : List ℕ) → (get_or rest 0 0 == 59) ≡ false → front_is_discard rest ≡ true → discarded_at room rest ≡ Ok after → length after < length rest
    → Skips room rest total → Skips room (after_spaces after) total
skips_discard room [] total after isnt is read_so shorter s = absurd (omega arith)
skips_discard room (b ∷ text) total after isnt is read_so shorter s = by s.turns s.enough s.same
  where
    by : (turns : ℕ) → length (b ∷ text) ≤ turns → skip_with (discarded_at room) turns (b ∷ text) ≡ total → Skips room (after_spaces after) total
    by zero enough same = absurd (omega arith)
    by (suc turns) enough same = passes room after total turns (omega arith) (sym (step room turns b text ∙ rw (s.solid, isnt, is, read_so) refl) ∙ same)

pub skips_fails : (room : ℕ) (rest : List ℕ) (total : Result (List ℕ) Fault) (e : ReadError) → (get_or rest 0 0 == 59) ≡ false → front_is_discard rest ≡ true → Fails e (discarded_at room rest)
    → Skips room rest total → Fails e total
skips_fails room [] total e isnt is failed s = absurd cc
skips_fails room (b ∷ text) total e isnt is failed s = fails_so e (discarded_at room (b ∷ text)) total (λ f at. by f at s.turns s.enough s.same) failed
  where
    by : (f : Fault) → discarded_at room (b ∷ text) ≡ Err f → (turns : ℕ) → length (b ∷ text) ≤ turns → skip_with (discarded_at room) turns (b ∷ text) ≡ total → total ≡ Err f
    by f at zero enough same = absurd (omega arith)
    by f at (suc turns) enough same = sym same ∙ step room turns b text ∙ rw (s.solid, isnt, is, at) refl

pub skips_end : (room : ℕ) (rest : List ℕ) (total : Result (List ℕ) Fault) → length rest ≡ 0 → Skips room rest total → total ≡ Ok rest
unfolding skip_with
skips_end room (b ∷ text) total none s = absurd (omega arith)
skips_end room [] total none s = by s.turns s.same
  where
    by : (turns : ℕ) → skip_with (discarded_at room) turns [] ≡ total → total ≡ Ok []
    by zero same = sym same
    by (suc turns) same = sym same

pub skips_stop : (room : ℕ) (rest : List ℕ) (total : Result (List ℕ) Fault) → 0 < length rest → (get_or rest 0 0 == 59) ≡ false → front_is_discard rest ≡ false → Skips room rest total → total ≡ Ok rest
skips_stop room [] total some isnt nor s = absurd (omega arith)
skips_stop room (b ∷ text) total some isnt nor s = by s.turns s.enough s.same
  where
    by : (turns : ℕ) → length (b ∷ text) ≤ turns → skip_with (discarded_at room) turns (b ∷ text) ≡ total → total ≡ Ok (b ∷ text)
    by zero enough same = absurd (omega arith)
    by (suc turns) enough same = sym same ∙ step room turns b text ∙ rw (s.solid, isnt, nor) refl
