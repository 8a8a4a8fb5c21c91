-- What the flat passes ask and ensure. The list is an array of slots; `members` and `sections` write it again from its start, and
-- `sections` keeps two words for each open section above it. What is ensured is the definition's answer, as it then stands in the words.
use Rattle.std.specs.Prelude.{ℕ, ◌+◌, ◌*◌, ◌-◌, ◌^◌, ◌≤◌, ◌<◌, ◌≡◌, ◌⊎◌, true, List, length, set, Result, Ok, Err}
use Rattle.std.proofs.Math.Option.{some}
use Rattle.molang.specs.Operator.{member_accessor}
use Rattle.molang.specs.Forest.{Token, Forest, nil, node, leaves}
use Rattle.molang.specs.Message.{Message, Result as Answer, ok, fail}
use Rattle.molang.specs.Sections.{with_member, members, Open, outside, section, position, Walked, going, mismatch, closing}
use Rattle.molang.specs.Sections.{bracket, sections}
use Rattle.molang.specs.Free.{flat}
use Rattle.ops.specs.Operators.{is_opener}
use Rattle.nodes.specs.Store.{wd, slot_start, SegB, RepT, RepB, InArray, Free, Kept}
use Rattle.levels.specs.Failures.{Tells, TellsMismatch, TellsUnclosed}
use Rattle.levels.specs.declared.failure.Failure.{Failure}
use Rattle.levels.specs.declared.failure.Mismatch.{Mismatch}
use Rattle.levels.specs.declared.failure.Unclosed.{Unclosed}
use Rattle.levels.specs.declared.failure.Fault.{Fault}
use Rattle.levels.specs.declared.failure.Fault.TheVariants.{Failed, Mismatched, Unclosed as Unclosing}
use Rattle.sections.specs.declared.Reached.{Reached}
use Rattle.sections.specs.declared.Differs.{Differs}

-- ---- what a flat pass leaves

-- What a fault of the flat passes tells.
pub data FlatTells (W : List ℕ) : Fault → List Message → Type 0 where
  failed : {f : Failure} {ms : List Message} → Tells W f ms → FlatTells W (Failed f) ms
  mismatched : {m : Mismatch} {ms : List Message} → TellsMismatch W m ms → FlatTells W (Mismatched m) ms
  unclosed : {u : Unclosed} {ms : List Message} → TellsUnclosed W u ms → FlatTells W (Unclosing u) ms

-- The definition's answer is a list, and it stands in the m words from `base` on.
pub record Stands (W X : List ℕ) (base lo hi n : ℕ) (answer : Answer) (m : ℕ) : Type 0 where
  pub forest : Forest
  pub is : answer ≡ ok forest
  pub array : InArray W X base m lo hi forest
  pub fewer : m ≤ n

-- The definition's answer is the messages that the error tells.
pub record Fails {E : Type 0} (Told : E → List Message → Type 0) (answer : Answer) (error : E) : Type 0 where
  pub messages : List Message
  pub is : answer ≡ fail messages
  pub told : Told error messages

-- What a flat pass left is the definition's answer: the list in m words, or the messages of an error.
abbrev pub Answers : {E : Type 0} → (E → List Message → Type 0) → List ℕ → List ℕ → ℕ → ℕ → ℕ → ℕ → Answer → Result ℕ E → Type 0
Answers Told W X base lo hi n answer (Ok m) = Stands W X base lo hi n answer m
Answers Told W X base lo hi n answer (Err error) = Fails Told answer error

-- ---- `members`

-- The tokens ks stand as leaves in the n words from `base` on, which lie above all their slots.
pub record CanJoin (W : List ℕ) (base n : ℕ) : Type 0 where
  pub X : List ℕ
  pub lo : ℕ
  pub hi : ℕ
  pub ks : List Token
  pub array : InArray W X base n lo hi (leaves ks)
  pub below : slot_start hi ≤ base
  pub room : base + n ≤ length W

-- What `members` left is the definition's `members` over the tokens.
pub record Joined (W : List ℕ) (base n : ℕ) (r : Result ℕ Failure) (W' : List ℕ) : Type 0 where
  pub answer : (g : CanJoin W base n) → Answers (Tells W') W' g.X base g.lo g.hi n (members nil (leaves g.ks)) r
  pub kept : (g : CanJoin W base n) → Kept W W' g.X g.lo g.hi base (base + n)
  pub long : length W' ≡ length W

-- The trees of e are written from `base` on, r of them.
pub record Written (W X : List ℕ) (base lo hi : ℕ) (e : Forest) (r : ℕ) : Type 0 where
  pub ds : List ℕ
  pub done : RepB W X ds lo hi e
  pub run : SegB W base ds
  pub wrote : r ≡ length ds

-- The accessor k is a leaf at the slot `item`, after the trees of d, one at least, which are written.
pub record MemberAt (W : List ℕ) (base write item : ℕ) : Type 0 where
  pub X : List ℕ
  pub lo : ℕ
  pub l : ℕ
  pub m : ℕ
  pub d : Forest
  pub k : Token
  pub written : Written W X base lo l d write
  pub some : 0 < write
  pub tree : RepT W X item l m k nil
  pub accessor : k.op ≡ member_accessor
  pub below : slot_start m ≤ base
  pub room : base + write < length W

-- The accessor is joined to those trees as in the definition.
pub record WithMember (W X : List ℕ) (base lo hi : ℕ) (k : Token) (d : Forest) (r : ℕ) : Type 0 where
  pub e : Forest
  pub is : with_member k d ≡ some e
  pub written : Written W X base lo hi e r

-- The accessor is joined to what is written, as in the definition; r trees are written then.
pub record Membered (W : List ℕ) (base write item r : ℕ) (W' : List ℕ) : Type 0 where
  pub joined : (g : MemberAt W base write item) → WithMember W' g.X base g.lo g.m g.k g.d r
  pub more : r ≤ write + 1
  pub kept : (g : MemberAt W base write item) → Kept W W' g.X g.lo g.m base (base + write + 1)
  pub long : length W' ≡ length W

-- ---- the open sections

-- The opener o of the innermost open section is a leaf, written in word w' of the array. The section's marks, number k', say that word and
-- the opener's position i. With it, k sections are open.
pub record Opener (W X : List ℕ) (base marks l m k' w' k : ℕ) (o : Token) (i : ℕ) : Type 0 where
  pub q : ℕ
  pub slot : wd W (base + w') ≡ q
  pub leaf : RepT W X q l m o nil
  pub opens : is_opener o.op ≡ true
  pub level : k ≡ k' + 1
  pub word : wd W (marks + 2 * k') ≡ w'
  pub start : wd W (marks + 2 * k' + 1) ≡ i

-- What has been read stands in the w words from `base` on: the trees outside every section, then each open section's opener and its
-- contents. k sections are open.
pub data Standing (W X : List ℕ) (base marks lo : ℕ) : ℕ → ℕ → ℕ → Open → Type 0 where
  outer : {hi k w : ℕ} {d : Forest} → Written W X base lo hi d w → k ≡ 0 → Standing W X base marks lo hi k w (outside d)
  inner : {l m hi k' w' v k w i : ℕ} {o : Token} {d : Forest} {s : Open} → Standing W X base marks lo l k' w' s
      → Opener W X base marks l m k' w' k o i
      → Written W X (base + (w' + 1)) m hi d v → w ≡ w' + 1 + v → Standing W X base marks lo hi k w (section o i d s)

-- ---- one token

-- There is room for one item, and for the marks of one section more.
pub record CanOpen (W : List ℕ) (base marks write depth index : ℕ) : Type 0 where
  pub apart : base + write < marks
  pub room : marks + 2 * depth + 2 ≤ length W
  pub word : write < 2 ^ 32
  pub start : index + 1 < 2 ^ 32

-- The opener is written, and the marks say in which word of the array, and its position.
pub record Opened (W : List ℕ) (base marks write depth index opener : ℕ) (r : Reached) (W' : List ℕ) : Type 0 where
  pub more : r.write ≡ write + 1
  pub deeper : r.depth ≡ depth + 1
  pub at : r.index ≡ index
  pub words : W' ≡ set (set (set W (base + write) opener) (marks + 2 * depth) write) (marks + 2 * depth + 1) (index + 1)

-- The open sections s stand in the words, and after them the token k, which has children only as an accessor. There is room to write it,
-- and to mark one section more.
pub record LookAt (W : List ℕ) (base marks write depth item : ℕ) : Type 0 where
  pub X : List ℕ
  pub lo : ℕ
  pub l : ℕ
  pub m : ℕ
  pub s : Open
  pub k : Token
  pub cs : Forest
  pub standing : Standing W X base marks lo l depth write s
  pub tree : RepT W X item l m k cs
  pub is_flat : flat (node k cs nil) ≡ true
  pub below : slot_start m ≤ base
  pub apart : base + write < marks
  pub room : marks + 2 * depth + 2 ≤ length W

-- How many brackets are open after the token, if the walk goes on and if a closer differs.
abbrev pub open_in : Result Reached Differs → ℕ
open_in (Ok a) = a.depth
open_in (Err d) = d.remaining

-- After the token at position i, w items being written before it: the walk goes on, or it ends, and the mismatch is told.
pub data Follows (W X : List ℕ) (base marks lo hi w i : ℕ) : Result Reached Differs → Walked → Type 0 where
  on : {a : Reached} {t : Open} → Standing W X base marks lo hi a.depth a.write t → a.write ≤ w + 1 → a.index ≡ i
      → Follows W X base marks lo hi w i (Ok a) (going t)
  ends : {d : Differs} {ms : List Message} → TellsMismatch W d.mismatch ms → Follows W X base marks lo hi w i (Err d) (mismatch ms)

-- A closer while a section is open: no word changes but those of the list's own slots.
pub record Closed (W : List ℕ) (base marks write depth index item : ℕ) (r : Result Reached Differs) (W' : List ℕ) : Type 0 where
  pub answer : (g : LookAt W base marks write depth item)
      → Follows W' g.X base marks g.lo g.m write index r (closing g.k g.cs index g.s)
  pub same : (g : LookAt W base marks write depth item) (j : ℕ) → Free g.X g.lo g.m j → wd W' j ≡ wd W j
  pub long : length W' ≡ length W

-- Any token: besides, the next word of the array and the marks of one section more can change.
pub record Looked (W : List ℕ) (base marks write depth index item : ℕ) (r : Result Reached Differs) (W' : List ℕ) : Type 0 where
  pub answer : (g : LookAt W base marks write depth item)
      → Follows W' g.X base marks g.lo g.m write (position index g.s) r (bracket g.k g.cs (position index g.s) g.s)
  pub same : (g : LookAt W base marks write depth item) (j : ℕ) → Free g.X g.lo g.m j → (j < base) ⊎ (base + write < j)
      → (j < marks) ⊎ (marks + 2 * depth + 2 ≤ j) → wd W' j ≡ wd W j
  pub long : length W' ≡ length W

-- One section at least is open, and the marks of the innermost and the outermost name words within the buffer.
pub record NamedAt (W : List ℕ) (base marks depth : ℕ) : Type 0 where
  pub some : 0 < depth
  pub within : marks + 2 * depth ≤ length W
  pub innermost : base + wd W (marks + 2 * (depth - 1)) < length W
  pub outermost : base + wd W (marks + 2 * 0) < length W

-- u names the innermost and the outermost open section by the slots of their openers, and the innermost by its position too.
pub record Named (W : List ℕ) (base marks depth : ℕ) (u : Unclosed) : Type 0 where
  pub inner : u.inner ≡ wd W (base + wd W (marks + 2 * (depth - 1)))
  pub start : u.start ≡ wd W (marks + 2 * (depth - 1) + 1)
  pub outer : u.outer ≡ wd W (base + wd W (marks + 2 * 0))

-- ---- `sections`

-- A flat list, in which only accessors have children, stands in the n words from `base` on, which lie above all its slots; after them there
-- is room for two words for each section. Indices and positions fit a word.
pub record CanSection (W : List ℕ) (base n : ℕ) : Type 0 where
  pub X : List ℕ
  pub lo : ℕ
  pub hi : ℕ
  pub f : Forest
  pub array : InArray W X base n lo hi f
  pub is_flat : flat f ≡ true
  pub below : slot_start hi ≤ base
  pub room : base + n + 2 * n ≤ length W
  pub small : n + 2 < 2 ^ 32

-- What `sections` left is the definition's `sections` over the list.
pub record Sectioned (W : List ℕ) (base n : ℕ) (r : Result ℕ Fault) (W' : List ℕ) : Type 0 where
  pub answer : (g : CanSection W base n) → Answers (FlatTells W') W' g.X base g.lo g.hi n (sections 0 (outside nil) g.f) r
  pub kept : (g : CanSection W base n) → Kept W W' g.X g.lo g.hi base (base + n + 2 * n)
  pub long : length W' ≡ length W
