-- Laws of what is written of an output, for a caller that makes one.
use Rattle.std.proofs.Common.{◌≡◌, ◌≤◌, ◌<◌, ◌+◌, ℕ, List, [], ◌++◌, length, take, drop, subst, sym, ap, ◌∙◌, Option, Result, Ok, Err, IfErr, arith, append_assoc, append-nil, length-append, length-drop, take-append-drop}
use lib.Seq.{take-append_seam}
use Rattle.std.specs.Prelude.{IsErrAnd}
use Rattle.std.proofs.lemmas.List.{take-append-le}
use Rattle.std.proofs.KnownBytes.{Appends-nil, Appends-trans}
use Rattle.std.specs.Io.KnownBytes.{Appends}
use Rattle.ref_edn.specs.Streams.{AppendsPart}
use Rattle.ref_output.specs.Pieces.{AppendsFront, BreaksOff, Remains}
use Rattle.ref_output.specs.declared.faults.OutputFault.{OutputFault}
use Rattle.ref_output.specs.declared.faults.OutputFault.TheVariants.{Write, Memory}

-- ---- an output that is written so far

-- Nothing is written at first.
pub remains_all : (a : Option (List ℕ)) (output rest : List ℕ) → output ≡ rest → Remains a a output rest
remains_all a output rest same = record { front = []; output_is = same; appended = Appends-nil a }

-- What remains is another list that is equal.
pub remains_as : (a b : Option (List ℕ)) (output rest left : List ℕ) → Remains a b output rest → rest ≡ left → Remains a b output left
remains_as a b output rest left r same = subst (Remains a b output) same r

-- Of what remains the front is written.
pub remains_then : (a b c : Option (List ℕ)) (output rest left : List ℕ) → Remains a b output rest → Remains b c rest left → Remains a c output left
remains_then a b c output rest left r w = record {
  front = r.front ++ w.front;
  output_is = r.output_is ∙ ap (λ l. r.front ++ l) w.output_is ∙ sym (append_assoc r.front w.front left);
  appended = Appends-trans a b c r.front w.front r.appended w.appended;
}

-- More stands behind the output, and so behind what remains.
pub remains_more : (a b : Option (List ℕ)) (output rest more : List ℕ) → Remains a b output rest → Remains a b (output ++ more) (rest ++ more)
remains_more a b output rest more r = record {
  front = r.front;
  output_is = ap (λ l. l ++ more) r.output_is ∙ append_assoc r.front rest more;
  appended = r.appended;
}

-- More was appended to what remains.
pub remains_with : (a b : Option (List ℕ)) (output waiting more waits : List ℕ) → Remains a b output waiting → waits ≡ waiting ++ more
    → Remains a b (output ++ more) waits
remains_with a b output waiting more waits r appended =
    remains_as a b (output ++ more) (waiting ++ more) waits (remains_more a b output waiting more r) (sym appended)

-- What remains is written.
pub wrote_all : (a b c : Option (List ℕ)) (output rest : List ℕ) → Remains a b output rest → Appends b c rest → Appends a c output
wrote_all a b c output rest r w = subst (Appends a c) (sym r.output_is) (Appends-trans a b c r.front rest r.appended w)

-- ---- an output that breaks off

part_of_front : (a b : Option (List ℕ)) (output front rest : List ℕ) → output ≡ front ++ rest → Appends a b front → 0 < length rest → AppendsPart a b output
part_of_front a b output front rest is w h =
    let len : length output ≡ length front + length rest = ap length is ∙ length-append front rest in
    let same : take (length front) output ≡ front = ap (take (length front)) is ∙ take-append_seam front rest in
    (length front, omega arith, subst (Appends a b) (sym same) w)

front_of_front : (a b : Option (List ℕ)) (output front rest : List ℕ) → output ≡ front ++ rest → Appends a b front → AppendsFront a b output
front_of_front a b output front rest is w =
    let len : length output ≡ length front + length rest = ap length is ∙ length-append front rest in
    let same : take (length front) output ≡ front = ap (take (length front)) is ∙ take-append_seam front rest in
    (length front, omega arith, subst (Appends a b) (sym same) w)

-- What was written so far is a beginning.
pub breaks_here : (a b : Option (List ℕ)) (output rest : List ℕ) → Remains a b output rest → BreaksOff Memory a b output
breaks_here a b output rest r = front_of_front a b output r.front rest r.output_is r.appended

-- the output in two parts, where the second one breaks off
in_parts : (a b : Option (List ℕ)) (output rest : List ℕ) (n : ℕ) (r : Remains a b output rest) → output ≡ (r.front ++ take n rest) ++ drop n rest
in_parts a b output rest n r =
    r.output_is ∙ ap (λ l. r.front ++ l) (sym (take-append-drop n rest)) ∙ sym (append_assoc r.front (take n rest) (drop n rest))

-- What remains breaks off.
pub breaks_rest : (f : OutputFault) (a b c : Option (List ℕ)) (output rest : List ℕ) → Remains a b output rest → BreaksOff f b c rest → BreaksOff f a c output
breaks_rest Write a b c output rest r w =
    let n = w.0 in
    let left : 0 < length (drop n rest) = let short : n < length rest = w.1 in omega (arith, length-drop n rest) in
    part_of_front a c output (r.front ++ take n rest) (drop n rest) (in_parts a b output rest n r)
    (Appends-trans a b c r.front (take n rest) r.appended w.2) left
breaks_rest Memory a b c output rest r w =
    let n = w.0 in
    front_of_front a c output (r.front ++ take n rest) (drop n rest) (in_parts a b output rest n r)
    (Appends-trans a b c r.front (take n rest) r.appended w.2)

-- More stands behind an output that breaks off.
pub breaks_more : (f : OutputFault) (a b : Option (List ℕ)) (output more : List ℕ) → BreaksOff f a b output → BreaksOff f a b (output ++ more)
breaks_more Write a b output more w =
    let n = w.0 in
    let short : n < length output = w.1 in
    let within : n ≤ length output = omega arith in
    (n, omega (arith, length-append output more), subst (Appends a b) (sym (take-append-le n output more within)) w.2)
breaks_more Memory a b output more w =
    let n = w.0 in
    let within : n ≤ length output = w.1 in
    (n, omega (arith, length-append output more), subst (Appends a b) (sym (take-append-le n output more within)) w.2)

-- ---- a line behind what waits

line_joined : (waiting tail line left waits : List ℕ) → tail ≡ line ++ left → waits ≡ waiting ++ line → waiting ++ tail ≡ waits ++ left
line_joined waiting tail line left waits first more =
    ap (λ l. waiting ++ l) first ∙ sym (append_assoc waiting line left) ∙ ap (λ l. l ++ left) (sym more)

-- One more line was appended, and a piece written.
pub remains_line : (a b c : Option (List ℕ)) (output waiting tail line left waits rest : List ℕ) → Remains a b output (waiting ++ tail)
    → tail ≡ line ++ left → waits ≡ waiting ++ line → Remains b c waits rest → Remains a c output (rest ++ left)
remains_line a b c output waiting tail line left waits rest r first more w =
    remains_then a b c output (waits ++ left) (rest ++ left)
    (remains_as a b output (waiting ++ tail) (waits ++ left) r (line_joined waiting tail line left waits first more))
    (remains_more b c waits rest left w)

-- The same, and the piece breaks off.
pub breaks_line : (f : OutputFault) (a b c : Option (List ℕ)) (output waiting tail line left waits : List ℕ) → Remains a b output (waiting ++ tail)
    → tail ≡ line ++ left → waits ≡ waiting ++ line → BreaksOff f b c waits → BreaksOff f a c output
breaks_line f a b c output waiting tail line left waits r first more w =
    breaks_rest f a b c output (waits ++ left)
    (remains_as a b output (waiting ++ tail) (waits ++ left) r (line_joined waiting tail line left waits first more))
    (breaks_more f b c waits left w)

-- No line is left.
pub remains_end : (a b : Option (List ℕ)) (output waiting tail : List ℕ) → Remains a b output (waiting ++ tail) → tail ≡ [] → Remains a b output waiting
remains_end a b output waiting tail r none =
    remains_as a b output (waiting ++ tail) waiting r (ap (λ l. waiting ++ l) none ∙ append-nil waiting)

-- ---- what a call returns that hands on such a fault

pub memory_told : {T : Type 0} (r : Result T OutputFault) (a b : Option (List ℕ)) (output rest : List ℕ) → IsErrAnd r (λ f. f ≡ Memory)
    → Remains a b output rest → IfErr r (λ f. BreaksOff f a b output)
memory_told (Ok x) a b output rest told r = tt
memory_told (Err f) a b output rest told r = rw told (breaks_here a b output rest r)

pub fault_told : {T : Type 0} (r : Result T OutputFault) (f : OutputFault) (a b : Option (List ℕ)) (output : List ℕ) → IsErrAnd r (λ g. g ≡ f)
    → BreaksOff f a b output → IfErr r (λ g. BreaksOff g a b output)
fault_told (Ok x) f a b output told w = tt
fault_told (Err g) f a b output told w = rw told w

-- What remains was to be written, and that breaks off.
pub rest_told : {T : Type 0} (r : Result T OutputFault) (a b c : Option (List ℕ)) (output rest : List ℕ) → Remains a b output rest
    → IfErr r (λ f. BreaksOff f b c rest) → IfErr r (λ f. BreaksOff f a c output)
rest_told (Ok x) a b c output rest r w = tt
rest_told (Err f) a b c output rest r w = breaks_rest f a b c output rest r w
