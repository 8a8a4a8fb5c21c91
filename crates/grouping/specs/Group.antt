-- What the passes in their order ask and ensure: the tokens stand in an array above their slots, and what is left stands for the
-- definition's answer. Between two passes the answer is what the passes that are left make of the list.
use Rattle.std.specs.Prelude.{ℕ, ◌+◌, ◌*◌, ◌^◌, ◌≤◌, ◌<◌, ◌≡◌, Bool, true, false, List, [], ◌∷◌, ℤ, length, drop, Result, Ok, Err, ⊤}
use Rattle.molang.specs.Forest.{Token, Forest, nil, leaves}
use Rattle.molang.specs.Message.{Message, Result as PassAnswer, ok, fail}
use Rattle.molang.specs.Sections.{members, outside, sections}
use Rattle.molang.specs.Order
use Rattle.molang.specs.Order.{Pass, last_token, member_accessors, sectioning, runs, ends_with_semicolon}
use Rattle.molang.specs.Read.{Answer, grouped}
use Rattle.molang.specs.Weight.{weight, node_weight}
use Rattle.ops.specs.declared.sets.OpSet.{OpSet}
use Rattle.nodes.specs.Store.{InArray}
use Rattle.grouping.specs.Grouped.{Says, StandsFor}
use Rattle.levels.specs.declared.failure.Failure.{Failure}
use Rattle.levels.specs.declared.failure.Fault.{Fault}
use Rattle.levels.specs.Failures.{Tells}
use Rattle.order.specs.Ranks.{used_by, rules_of}
use Rattle.sections.specs.Flat.{CanJoin, CanSection, FlatTells, Answers}
use Rattle.grouping.specs.Driver.{Outermost}

-- ---- `group`

-- The n tokens stand as leaves in the n words from `base` on, which is where the slots end.
pub record CanGroup (W : List ℕ) (base n : ℕ) : Type 0 where
  pub tokens : List Token
  pub array : InArray W (0 ∷ []) base n 3 (3 * n + 3) (leaves tokens)
  pub based : base ≡ 24 * n + 24
  pub room : 64 * n + 64 ≤ length W
  pub few : n ≤ 4096
  pub small : length W < 2 ^ 32

-- What is left stands for the definition's reading of those tokens, whatever the length of the source. All other words of the work buffer
-- are left free: the entry clears it.
pub record HasGrouped (W : List ℕ) (base n : ℕ) (used : OpSet) (version : ℤ) (r : Result ⊤ Fault) (W' : List ℕ) : Type 0 where
  pub to : (g : CanGroup W base n) (source_length : ℕ)
      → StandsFor W' (3 * n + 3) n source_length r
      (grouped source_length (used_by used) (Order.order (rules_of version)) [] (leaves g.tokens))
  pub long : length W' ≡ length W

-- ---- the flat passes

-- The answer is what the passes ps make of the list in the m words from `base` on, which is no heavier than n tokens.
pub record Listed (W : List ℕ) (base n source_length : ℕ) (u : ℕ → Bool) (ps : List Pass) (answer : Answer) (m : ℕ) : Type 0 where
  pub forest : Forest
  pub is : answer ≡ grouped source_length u ps [] forest
  pub array : InArray W (0 ∷ []) base m 3 (3 * n + 3) forest
  pub fewer : m ≤ n
  pub light : weight node_weight forest ≤ 3 * n

-- Such a list in m words, or the answer that the fault stands for.
abbrev pub FlatTo : List ℕ → ℕ → ℕ → ℕ → (ℕ → Bool) → List Pass → Answer → Result ℕ Fault → Type 0
FlatTo W base n source_length u ps answer (Ok m) = Listed W base n source_length u ps answer m
FlatTo W base n source_length u ps answer (Err fault) = StandsFor W (3 * n + 3) n source_length (Err fault) answer

-- A pass, if it runs.
unfoldable pub if_run : Bool → (Forest → PassAnswer) → Forest → PassAnswer
if_run true p f = p f
if_run false p f = ok f

-- The check of the last token changes nothing.
pub data EndsTo (W : List ℕ) (source_length : ℕ) (x : PassAnswer) (f : Forest) : Result ⊤ Failure → Type 0 where
  ended : x ≡ ok f → EndsTo W source_length x f (Ok tt)
  unended : {q : Failure} {ms : List Message} → x ≡ fail ms → Says W source_length q ms → EndsTo W source_length x f (Err q)

-- The last token is checked if that pass runs.
pub record EndsRight (W : List ℕ) (base n : ℕ) (used : OpSet) (r : Result ⊤ Failure) : Type 0 where
  pub to : (g : CanGroup W base n) (source_length : ℕ)
      → EndsTo W source_length
      (if_run (runs (used_by used) last_token) (ends_with_semicolon source_length) (leaves g.tokens)) (leaves g.tokens) r

-- The members are joined if that pass runs. All words but those of the answer are left free.
pub record JoinedIf (W : List ℕ) (base n : ℕ) (used : OpSet) (r : Result ℕ Failure) (W' : List ℕ) : Type 0 where
  pub answer : (g : CanJoin W base n)
      → Answers (Tells W') W' g.X base g.lo g.hi n (if_run (runs (used_by used) member_accessors) (members nil) (leaves g.ks)) r
  pub long : length W' ≡ length W

-- The sections are made if that pass runs. All words but those of the answer are left free.
pub record SectionedIf (W : List ℕ) (base n : ℕ) (used : OpSet) (r : Result ℕ Fault) (W' : List ℕ) : Type 0 where
  pub answer : (g : CanSection W base n)
      → Answers (FlatTells W') W' g.X base g.lo g.hi n (if_run (runs (used_by used) sectioning) (sections 0 (outside nil)) g.f) r
  pub long : length W' ≡ length W

-- The three flat passes have run, and any passes ps come after them. All words but those of the list, or of what the failure names, are
-- left free.
pub record Flattened (W : List ℕ) (base n : ℕ) (used : OpSet) (r : Result ℕ Fault) (W' : List ℕ) : Type 0 where
  pub to : (g : CanGroup W base n) (source_length : ℕ) (ps : List Pass)
      → FlatTo W' base n source_length (used_by used) ps
      (grouped source_length (used_by used) (last_token ∷ member_accessors ∷ sectioning ∷ ps) [] (leaves g.tokens)) r
  pub long : length W' ≡ length W

-- ---- `levels`

-- The outermost list has m items and is no heavier than n tokens, and the stack starts where the slots of so many end.
pub record CanLevel (W : List ℕ) (base m : ℕ) : Type 0 where
  pub n : ℕ
  pub F : Forest
  pub list : Outermost W base m (3 * n + 3) F
  pub light : weight node_weight F ≤ 3 * n
  pub based : base ≡ 24 * n + 24
  pub room : 64 * n + 64 ≤ length W
  pub small : length W < 2 ^ 32

-- What is left stands for what the passes after the sections make of that list. All other words are left free.
pub record Levelled (W : List ℕ) (base m : ℕ) (used : OpSet) (version : ℤ) (r : Result ⊤ Fault) (W' : List ℕ) : Type 0 where
  pub to : (g : CanLevel W base m) (source_length : ℕ)
      → StandsFor W' (3 * g.n + 3) g.n source_length r
      (grouped source_length (used_by used) (drop 3 (Order.order (rules_of version))) [] g.F)
  pub long : length W' ≡ length W
