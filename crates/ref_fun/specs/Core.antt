-- What the functions and predicates of Core mean, by their codes. The names and the functions are Clojure's; the causes,
-- the limits, and which kinds a function takes are this project's profile. A function checks in this order: the number
-- of arguments, the kinds of state and arguments, the result. It is called with at most 8 arguments.
--
--   code  name    arguments    state and arguments    gives
--   1     +       0 to 8       integers               the state plus the arguments, from left to right
--   2     -       0 to 8       integers               the negation; or the state less the arguments, from left to right
--   3     inc     none         integer                the state plus 1
--   4     dec     none         integer                the state less 1
--   5     max     0 to 8       integers               the greatest of them
--   6     min     0 to 8       integers               the least of them
--   7     conj    0 to 8       vector or set          the arguments appended in order, or added
--   8     assoc   2, 4, 6, 8   map, nil as the empty  pairs of key and value put in, from left to right
--   9     dissoc  0 to 8       map                    without these keys
--   10    disj    0 to 8       set                    without these elements
--
--   101   >=      integer n                           accepts an integer of at least n
--   102   <=      integer n                           accepts an integer of at most n
--   103   =       one value                           accepts an equal value
--   104   int?    none                                accepts an integer
--   105   string? 106 vector? 107 map? 108 set?       likewise
--   109   some?   none                                accepts everything but nil
--
-- An integer of more than 64 bits, also on the way, is an Overflow. A result of `conj` or `assoc` that is nested deeper
-- than 48 is TooDeep.
use Rattle.std.specs.Prelude.{◌≡◌, ℕ, ℤ, ◌==◌, ◌&&◌, nat_lt, Bool, false, not, if◌then◌else◌, List, [], ◌∷◌, Result, Err, refl}
use Rattle.ref_value.specs.Edn.{Edn, int}
use Rattle.ref_fun.specs.declared.faults.Cause.{Cause}
use Rattle.ref_fun.specs.declared.faults.Cause.TheVariants.{WrongArity}
use Rattle.ref_fun.specs.Integers.{plus, minus, inc, dec, greatest, least}
use Rattle.ref_fun.specs.Collections.{conj, assoc, dissoc, disj, is_early}
use Rattle.ref_fun.specs.Kinds.{is_int, is_string, is_vector, is_map, is_set, is_not_nil}
use Rattle.ref_fun.specs.Predicates.{at_least, at_most, equals, is_of_kind}

-- The functions. Another code has none, so no number of arguments is right.
unfoldable pub core_means : ℕ → List Edn → Edn → Result Edn Cause
core_means code args state =
    if code == 1 then plus args state else
    if code == 2 then minus args state else
    if code == 3 then inc args state else
    if code == 4 then dec args state else
    if code == 5 then greatest args state else
    if code == 6 then least args state else
    if code == 7 then conj args state else
    if code == 8 then assoc args state else
    if code == 9 then dissoc args state else
    if code == 10 then disj args state else
    Err WrongArity

-- Whether a call may take memory: one of a function of collections that isn't refused for the number or the kinds of what it is
-- called on.
abbrev pub takes_memory : ℕ → Result Edn Cause → Bool
takes_memory code meant = nat_lt 6 code && not (is_early meant)

pub core_adds : (a b : ℤ) → core_means 1 (int b ∷ []) (int a) ≡ plus (int b ∷ []) (int a)
unfolding core_means
core_adds a b = refl

pub core_takes : (a b : ℤ) → core_means 2 (int b ∷ []) (int a) ≡ minus (int b ∷ []) (int a)
unfolding core_means
core_takes a b = refl

-- The predicates. Another code accepts nothing.
unfoldable pub core_accepts : ℕ → List Edn → Edn → Bool
core_accepts code args state =
    if code == 101 then at_least args state else
    if code == 102 then at_most args state else
    if code == 103 then equals args state else
    if code == 104 then is_of_kind is_int args state else
    if code == 105 then is_of_kind is_string args state else
    if code == 106 then is_of_kind is_vector args state else
    if code == 107 then is_of_kind is_map args state else
    if code == 108 then is_of_kind is_set args state else
    if code == 109 then is_of_kind is_not_nil args state else
    false
