-- Computed examples. That demand 3 is not empty: a list with three different trees at 4, 5 and 6, each of which is plain and, once written,
-- is read alike at all three. And what demand 3 alone would not notice, since it would change both of its sides: how a tree is written, and
-- which brackets are taken away.
use Prim.Native.Nat.{ℕ, ◌+◌, ◌*◌, ◌^◌}
use mathlib.Core.{Path.{◌≡◌, refl, ap}, List.{List, [], ◌∷◌}, Bool.{false}, Option.{Option, none, some}}
use native.Mathlib.Omega.{arith}
use lib.IntN.{pos}
use Rattle.molang.specs.Operator
use Rattle.molang.specs.{Forest.{Token, Forest, nil, node}, Read.{Answer, tree, messages, read, uses, set_number}}
use Rattle.molang.specs.{Words.{word, operator_field, word_fault}, Plain.{unplain_at}}
use Rattle.molang.specs.Write.{written, written_tree, taken_away, comparable}
use Rattle.molang.proofs.Computed.{computed}

-- The token at a position, and trees of it, before others.
abbrev at : ℕ → ℕ → Token
at o i = record { op = o; variant = 0; value = 0; start = i; end = i + 1; close = i + 1 }

abbrev leaf : ℕ → Forest → Forest
leaf i rest = node (at Operator.float i) nil rest

abbrev over : ℕ → ℕ → Forest → Forest → Forest
over o i below rest = node (at o i) below rest

-- `a && b || c ? d : e ? f : g`
abbrev list : List Token
list =
    at Operator.float 0 ∷ at Operator.logical_and 1 ∷ at Operator.float 2 ∷ at Operator.logical_or 3 ∷ at Operator.float 4
    ∷ at Operator.conditional 5 ∷ at Operator.float 6 ∷ at Operator.conditional_else 7 ∷ at Operator.float 8
    ∷ at Operator.conditional 9 ∷ at Operator.float 10 ∷ at Operator.conditional_else 11 ∷ at Operator.float 12 ∷ []

-- The logic below 6, `a && (b || c)`, and from 6, `(a && b) || c`.
abbrev or_first : Forest → Forest
or_first rest = over Operator.logical_and 1 (leaf 0 (over Operator.logical_or 3 (leaf 2 (leaf 4 nil)) nil)) rest

abbrev and_first : Forest → Forest
and_first rest = over Operator.logical_or 3 (over Operator.logical_and 1 (leaf 0 (leaf 2 nil)) (leaf 4 nil)) rest

-- The children of the first `?` and of the second, paired to the left, and of the first `?` where the second is paired to the right.
abbrev paired_left : Forest
paired_left = over Operator.conditional 5 (or_first (over Operator.conditional_else 7 (leaf 6 (leaf 8 nil)) nil))
    (over Operator.conditional_else 11 (leaf 10 (leaf 12 nil)) nil)

abbrev paired_right : (Forest → Forest) → Forest
paired_right logic =
    logic (over Operator.conditional_else 7 (leaf 6 (over Operator.conditional 9
    (leaf 8 (over Operator.conditional_else 11 (leaf 10 (leaf 12 nil)) nil)) nil)) nil)

abbrev read_at : ℕ → Answer
read_at version = read list (uses list) (pos version) 13

trees : List Answer
trees = read_at 4 ∷ read_at 5 ∷ read_at 6 ∷ []

three-trees : trees ≡ tree (at Operator.conditional 9) paired_left ∷ tree (at Operator.conditional 5) (paired_right or_first) ∷ tree
    (at Operator.conditional 5) (paired_right and_first) ∷ []
unfolding computed trees
three-trees = refl

-- They differ: in where the root starts, and in the operator of the condition.
root_start : Answer → ℕ
root_start (tree k cs) = k.start
root_start (messages ms) = 0

first_operator : Answer → ℕ
first_operator (tree k nil) = 0
first_operator (tree k (node x xs rest)) = x.op
first_operator (messages ms) = 0

four-differs : read_at 4 ≡ read_at 5 → ⊥
unfolding computed root_start
four-differs same = let starts : ◌≡◌ {A = ℕ} 9 5 = ap root_start same in omega arith

six-differs : read_at 5 ≡ read_at 6 → ⊥
unfolding computed first_operator
six-differs same = let operators : ◌≡◌ {A = ℕ} Operator.logical_and Operator.logical_or = ap first_operator same in omega arith

-- Each is plain, and its writing is read alike at 4, 5 and 6.
plains : List (Option ℕ)
plains = unplain_at (at Operator.conditional 9) paired_left ∷ unplain_at (at Operator.conditional 5) (paired_right or_first) ∷ unplain_at
    (at Operator.conditional 5) (paired_right and_first) ∷ []

all_plain : plains ≡ none ∷ none ∷ none ∷ []
unfolding computed plains
all_plain = refl

abbrev again : ℕ → Forest → ℕ → Answer
again i cs version = read (written (at Operator.conditional i) cs []) (uses (written (at Operator.conditional i) cs [])) (pos version) 13

-- An added bracket over one tree, from its lowest start to its highest end.
abbrev in_pair : ℕ → ℕ → (Forest → Forest) → Forest → Forest
in_pair lowest highest inside rest =
    node (record { op = Operator.left_parenthesis; variant = 0; value = 0; start = lowest; end = highest; close = highest })
    (inside nil) rest

abbrev or_in_pair : Forest → Forest
or_in_pair rest = in_pair 0 5 (over Operator.logical_and 1 (leaf 0 (in_pair 2 5 (over Operator.logical_or 3 (leaf 2 (leaf 4 nil))) nil))) rest

abbrev and_in_pair : Forest → Forest
and_in_pair rest = in_pair 0 5 (over Operator.logical_or 3 (in_pair 0 3 (over Operator.logical_and 1 (leaf 0 (leaf 2 nil))) (leaf 4 nil))) rest

abbrev second_in_pair : (Forest → Forest) → Forest
second_in_pair logic =
    logic (over Operator.conditional_else 7 (leaf 6 (in_pair 8 13 (over Operator.conditional 9
    (leaf 8 (over Operator.conditional_else 11 (leaf 10 (leaf 12 nil)) nil))) nil)) nil)

abbrev first_in_pair : Forest
first_in_pair = in_pair 0 9 (over Operator.conditional 5 (or_in_pair (over Operator.conditional_else 7 (leaf 6 (leaf 8 nil)) nil)))
    (over Operator.conditional_else 11 (leaf 10 (leaf 12 nil)) nil)

readings : List Answer
readings =
    again 9 paired_left 4 ∷ again 9 paired_left 5 ∷ again 9 paired_left 6
    ∷ again 5 (paired_right or_first) 4 ∷ again 5 (paired_right or_first) 5 ∷ again 5 (paired_right or_first) 6
    ∷ again 5 (paired_right and_first) 4 ∷ again 5 (paired_right and_first) 5 ∷ again 5 (paired_right and_first) 6 ∷ []

abbrev thrice : Answer → List Answer → List Answer
thrice a more = a ∷ a ∷ a ∷ more

read_alike : readings
    ≡ thrice (tree (at Operator.conditional 9) first_in_pair)
    (thrice (tree (at Operator.conditional 5) (second_in_pair or_in_pair))
    (thrice (tree (at Operator.conditional 5) (second_in_pair and_in_pair)) []))
unfolding computed readings
read_alike = refl

-- With brackets taken away each is what it was.
abbrev left : Forest → Forest
left f = taken_away false f nil

remains : List Forest
remains =
    left (over Operator.conditional 9 first_in_pair nil) ∷ left (over Operator.conditional 5 (second_in_pair or_in_pair) nil)
    ∷ left (over Operator.conditional 5 (second_in_pair and_in_pair) nil) ∷ []

agree-again : remains ≡
    over Operator.conditional 9 paired_left nil
    ∷ over Operator.conditional 5 (paired_right or_first) nil
    ∷ over Operator.conditional 5 (paired_right and_first) nil
    ∷ []
unfolding computed remains
agree-again = refl

-- Which tokens are written, by their operators; 36 is a math call.
operators : List Token → List ℕ
operators [] = []
operators (k ∷ ks) = k.op ∷ operators ks

abbrev math_call : ℕ
math_call = 36

abbrev a : Forest → Forest
a rest = leaf 0 rest

abbrev sum : Forest → Forest
sum rest = over Operator.add 1 (a (a nil)) rest

abbrev bracket : ℕ → Forest → Forest → Forest
bracket i below rest = over Operator.left_parenthesis i below rest

abbrev writes : ℕ → Forest → List ℕ
writes o below = operators (written (at o 1) below [])

abbrev x : ℕ
x = Operator.float

abbrev opener : ℕ
opener = Operator.left_parenthesis

abbrev closer : ℕ
closer = Operator.right_parenthesis

writings : List (List ℕ)
writings =
    writes Operator.mul (a (sum nil))
    ∷ writes Operator.mul (sum (a nil))
    ∷ writes Operator.conditional (a (over Operator.conditional_else 2 (a (a nil)) nil))
    ∷ writes Operator.comma (over Operator.comma 2 (a (a nil)) (a nil))
    ∷ writes Operator.negate (a nil)
    ∷ writes Operator.negate (sum nil)
    ∷ writes Operator.mul (bracket 2 (a nil) (a nil))
    ∷ writes Operator.query_function (bracket 2 (sum nil) nil)
    ∷ writes math_call (bracket 2 nil nil)
    ∷ []

usual-writing : writings ≡
    (x ∷ Operator.mul ∷ opener ∷ x ∷ Operator.add ∷ x ∷ closer ∷ [])
    ∷ (opener ∷ x ∷ Operator.add ∷ x ∷ closer ∷ Operator.mul ∷ x ∷ [])
    ∷ (x ∷ Operator.conditional ∷ x ∷ Operator.conditional_else ∷ x ∷ [])
    ∷ (x ∷ Operator.comma ∷ x ∷ Operator.comma ∷ x ∷ [])
    ∷ (Operator.negate ∷ x ∷ [])
    ∷ (Operator.negate ∷ opener ∷ x ∷ Operator.add ∷ x ∷ closer ∷ [])
    ∷ (opener ∷ x ∷ closer ∷ Operator.mul ∷ x ∷ [])
    ∷ (Operator.query_function ∷ opener ∷ x ∷ Operator.add ∷ x ∷ closer ∷ [])
    ∷ (math_call ∷ opener ∷ closer ∷ [])
    ∷ []
unfolding computed writings operators
usual-writing = refl

-- What is left with brackets taken away: of `(a)`, `((a + a))`, `(a) + ((a))`; a call keeps its own bracket, and no other; `(a a)` has two.
takings : List Forest
takings =
    left (bracket 2 (a nil) nil)
    ∷ left (bracket 3 (bracket 2 (sum nil) nil) nil)
    ∷ left (over Operator.add 1 (bracket 2 (a nil) (bracket 4 (bracket 3 (a nil) nil) nil)) nil)
    ∷ left (over Operator.query_function 1 (bracket 2 (a nil) nil) nil)
    ∷ left (over Operator.query_function 1 (bracket 2 (bracket 3 (a nil) nil) nil) nil)
    ∷ left (over math_call 1 (bracket 2 (a nil) nil) nil)
    ∷ left (over math_call 1 (bracket 2 nil nil) nil)
    ∷ left (bracket 2 (a (a nil)) nil)
    ∷ []

what-is-left : takings ≡
    a nil
    ∷ sum nil
    ∷ sum nil
    ∷ over Operator.query_function 1 (bracket 2 (a nil) nil) nil
    ∷ over Operator.query_function 1 (bracket 2 (a nil) nil) nil
    ∷ over math_call 1 (bracket 2 (a nil) nil) nil
    ∷ over math_call 1 (bracket 2 nil nil) nil
    ∷ bracket 2 (a (a nil)) nil
    ∷ []
unfolding computed takings
what-is-left = refl

-- A script, `v = a ? b : c ; return v ;` as it is read at 4: its statements are written with their semicolons, it is read alike at 4, 5
-- and 6, and what is compared of it is what it was. A semicolon has the span of what its statement holds.
abbrev statement : ℕ → Forest → Forest → Forest
statement i holds rest = over Operator.semicolon i holds rest

abbrev variable : ℕ → Forest → Forest
variable i rest = node (at Operator.temp_variable i) nil rest

abbrev script : Forest
script =
    statement 0 (over Operator.assignment 1 (variable 0
    (over Operator.conditional 3 (leaf 2 (over Operator.conditional_else 5 (leaf 4 (leaf 6 nil)) nil)) nil)) nil)
    (statement 8 (over Operator.return 8 (variable 9 nil) nil) nil)

abbrev script_list : List Token
script_list = written_tree (at Operator.semicolon 7) script

abbrev script_again : ℕ → Answer
script_again version = read script_list (uses script_list) (pos version) 11

compared : Answer → Forest
compared (tree k cs) = comparable (left (node k cs nil))
compared (messages ms) = nil

scripts : List Forest
scripts = compared (script_again 4) ∷ compared (script_again 5) ∷ compared (script_again 6) ∷ []

script-alike : scripts ≡ comparable (node (at Operator.semicolon 7) script nil) ∷ comparable (node (at Operator.semicolon 7) script nil)
    ∷ comparable (node (at Operator.semicolon 7) script nil) ∷ []
unfolding computed scripts compared
script-alike = refl

script-written : operators script_list ≡
    Operator.temp_variable ∷ Operator.assignment ∷ opener ∷ x ∷ Operator.conditional ∷ x ∷ Operator.conditional_else ∷ x ∷ closer
    ∷ Operator.semicolon ∷ Operator.return ∷ Operator.temp_variable ∷ Operator.semicolon ∷ []
unfolding computed operators
script-written = refl

script-plain : unplain_at (at Operator.semicolon 7) script ≡ none
unfolding computed
script-plain = refl

-- Hosts. `300 + this` and `query(1023, 256)` are plain, are written with their numbers, and are read back as they were at 4, 5 and 6; a
-- host over something is not plain.
abbrev hosts : Forest
hosts = node (at 300 0) nil (node (at Operator.this 2) nil nil)

abbrev host_call : Forest
host_call = bracket 1 (over Operator.comma 3 (node (at 1023 2) nil (node (at 256 4) nil nil)) nil) nil

hosts_plain : List (Option ℕ)
hosts_plain = unplain_at (at Operator.add 1) hosts ∷ unplain_at (at Operator.query_function 0) host_call ∷ unplain_at (at 300 1) (a nil) ∷ []

hosts-plain : hosts_plain ≡ none ∷ none ∷ some 0 ∷ []
unfolding computed hosts_plain
hosts-plain = refl

host_writings : List (List ℕ)
host_writings = writes Operator.add hosts ∷ operators (written (at Operator.query_function 0) host_call []) ∷ []

hosts-written : host_writings ≡
    (300 ∷ Operator.add ∷ Operator.this ∷ [])
    ∷ (Operator.query_function ∷ opener ∷ 1023 ∷ Operator.comma ∷ 256 ∷ closer ∷ [])
    ∷ []
unfolding computed host_writings operators
hosts-written = refl

abbrev back_at : Token → Forest → ℕ → Answer
back_at k cs version = let ks = written_tree k cs in read ks (uses ks) (pos version) 5

host_readings : List Answer
host_readings =
    back_at (at Operator.add 1) hosts 4 ∷ back_at (at Operator.add 1) hosts 5 ∷ back_at (at Operator.add 1) hosts 6
    ∷ back_at (at Operator.query_function 0) host_call 4 ∷ back_at (at Operator.query_function 0) host_call 5
    ∷ back_at (at Operator.query_function 0) host_call 6 ∷ []

hosts-alike : host_readings ≡ thrice (tree (at Operator.add 1) hosts) (thrice (tree (at Operator.query_function 0) host_call) [])
unfolding computed host_readings
hosts-alike = refl

-- The used sets of their second readings have no bit for a host: 9 and 76; 4, 5, 40 and 75.
host_sets : List ℕ
host_sets =
    set_number (uses (written_tree (at Operator.add 1) hosts)) 111
    ∷ set_number (uses (written_tree (at Operator.query_function 0) host_call)) 111
    ∷ []

hosts-unused : host_sets ≡ (2 ^ 9 + 2 ^ 76) ∷ (2 ^ 4 + 2 ^ 5 + 2 ^ 40 + 2 ^ 75) ∷ []
unfolding computed host_sets
hosts-unused = refl

-- Answer 9 is for every other number: 110, 256 and 1,023 are legal, 111, 255, 1,024 and 4,095 are not.
abbrev fault : ℕ → Option ℕ
fault low = word_fault operator_field 0 (word 1 low)

host_faults : List (Option ℕ)
host_faults =
    fault 110 ∷ fault (2 ^ 12) ∷ fault (3 * 2 ^ 12 + 255)
    ∷ fault 111 ∷ fault 255 ∷ fault (4 * 2 ^ 12) ∷ fault (15 * 2 ^ 12 + 255) ∷ []

host-faults : host_faults ≡ none ∷ none ∷ none ∷ some 9 ∷ some 9 ∷ some 9 ∷ some 9 ∷ []
unfolding computed host_faults
host-faults = refl
