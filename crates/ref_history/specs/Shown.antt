-- How references, operations and sends are written in a history: as in a workload, with the answer of an operation behind an arrow.
--
--   a, ref 3                            a reference by its name, or by its kind and number where it has none; of a name at most 256 bytes
--   [:alter a + 5] -> 5                 an operation on a ref; :set, :commute and :ensure likewise
--   [:swap x conj 1] -> [1]             one on an atom; :reset likewise
--   [:send g + 1]                       a send
--   [:send-carry g [+ 1] [h + 10]]      a send of an action that carries sends
use Rattle.std.specs.Prelude.{ℕ, ◌-◌, nat_le, Bool, not, if◌then◌else◌, List, [], ◌∷◌, ◌++◌, length, take, Option, None, Some, unwrap_or, slice_get, slice_index, codes, decimal}
use Rattle.std.specs.Int.{is_in_range}
use Rattle.std.specs.List.{flat_map}
use Rattle.ref_value.specs.Edn.{Edn}
use Rattle.ref_edn.specs.Printed.{printed}
use Rattle.ref_fun.specs.Names.{core_names, name_in}
use Rattle.ref_fun.specs.declared.carries.Carry.{Carry}
use Rattle.ref_log.specs.declared.notices.Who.{Who}
use Rattle.ref_log.specs.declared.notices.Who.TheVariants as whos
use Rattle.ref_log.specs.declared.operations.Done.{Done}
use Rattle.ref_log.specs.declared.operations.Op.{Op}
use Rattle.ref_log.specs.declared.operations.Op.TheVariants.{Set, Alter, Commute, Ensure}
use Rattle.ref_log.specs.declared.sends.Sent.{Sent}
use Rattle.ref_forms.specs.Names.{NamesSeen}

abbrev pub space : List ℕ
space = 32 ∷ []

abbrev pub arrow : List ℕ
arrow = codes " -> "

-- ---- names

abbrev pub most_of_name : ℕ
most_of_name = 256

-- whether a byte in UTF-8 goes on with a character
abbrev pub goes_on : ℕ → Bool
goes_on b = is_in_range 0x80 0xBF b

-- where the character begins that has the byte at this place: it has at most four
abbrev pub begin_of : List ℕ → ℕ → ℕ
begin_of text n =
    if not (goes_on (slice_index text n)) then n else
    if not (goes_on (slice_index text (n - 1))) then n - 1 else
    if not (goes_on (slice_index text (n - 2))) then n - 2 else n - 3

-- A name, or as many of its characters as have room in so many bytes, and an ellipsis.
abbrev pub shown_name : List ℕ → List ℕ
shown_name name = if nat_le (length name) most_of_name then name else take (begin_of name most_of_name) name ++ 0xE2 ∷ 0x80 ∷ 0xA6 ∷ []

-- ---- references

abbrev pub name_or : List ℕ → ℕ → Option (List ℕ) → List ℕ
name_or kind n (Some name) = shown_name name
name_or kind n None = kind ++ space ++ decimal n

abbrev pub reference_text : NamesSeen → Who → List ℕ
reference_text names (whos.Ref n) = name_or (codes "ref") n (slice_get names.refs n)
reference_text names (whos.Atom n) = name_or (codes "atom") n (slice_get names.atoms n)
reference_text names (whos.Agent n) = name_or (codes "agent") n (slice_get names.agents n)

-- ---- operations

-- a value with a space in front
abbrev pub spaced : Edn → List ℕ
spaced v = space ++ printed v

-- F ARG ..
abbrev pub call_text : ℕ → List Edn → List ℕ
call_text code args = unwrap_or (name_in core_names code) [] ++ flat_map spaced args

-- what stands behind the reference of an operation
abbrev pub rest_text : Op → List ℕ
rest_text (Set v) = spaced v
rest_text (Alter code args) = space ++ call_text code args
rest_text (Commute code args) = space ++ call_text code args
rest_text Ensure = []

abbrev pub ref_word : Op → List ℕ
ref_word (Set v) = codes "set"
ref_word (Alter code args) = codes "alter"
ref_word (Commute code args) = codes "commute"
ref_word Ensure = codes "ensure"

-- An atom is set or altered. It has no other operations.
abbrev pub atom_word : Op → List ℕ
atom_word (Set v) = codes "reset"
atom_word (Alter code args) = codes "swap"
atom_word (Commute code args) = codes "swap"
atom_word Ensure = codes "swap"

-- [:WORD REFERENCE ..]
abbrev pub operation_text : List ℕ → List ℕ → Op → List ℕ
operation_text word reference op = codes "[:" ++ word ++ space ++ reference ++ rest_text op ++ codes "]"

abbrev pub answered_text : List ℕ → List ℕ → Op → Edn → List ℕ
answered_text word reference op answer = operation_text word reference op ++ arrow ++ printed answer

-- an operation of a transaction, with a space in front
abbrev pub done_text : NamesSeen → Done → List ℕ
done_text names d = space ++ answered_text (ref_word d.op) (reference_text names (whos.Ref d.r)) d.op d.answer

-- ---- sends

-- a send that an action carries, with a space in front
abbrev pub carry_text : NamesSeen → Carry → List ℕ
carry_text names c = codes " [" ++ reference_text names (whos.Agent c.g) ++ space ++ call_text c.code c.args ++ codes "]"

-- a send to this agent of an action that calls so, and one of an action that carries these too
abbrev pub plain_send : List ℕ → List ℕ → List ℕ
plain_send agent call = codes " [:send " ++ agent ++ space ++ call ++ codes "]"

abbrev pub bracketed : List ℕ → List ℕ
bracketed call = codes " [" ++ call ++ codes "]"

abbrev pub carrying_head : List ℕ → List ℕ → List ℕ
carrying_head agent call = codes " [:send-carry " ++ agent ++ bracketed call

abbrev pub carrying_send : NamesSeen → List ℕ → List ℕ → List Carry → List ℕ
carrying_send names agent call carries = carrying_head agent call ++ flat_map (carry_text names) carries ++ codes "]"

abbrev pub carrying_text : NamesSeen → List ℕ → List ℕ → List Carry → List ℕ
carrying_text names agent call [] = plain_send agent call
carrying_text names agent call (c ∷ cs) = carrying_send names agent call (c ∷ cs)

-- a send of a transaction, with a space in front
abbrev pub send_text : NamesSeen → Sent → List ℕ
send_text names s = carrying_text names (reference_text names (whos.Agent s.agent)) (call_text s.action.code s.action.args) s.action.carries
