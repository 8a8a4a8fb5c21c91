-- WHAT HOLDS OF THE WALK: if an operand is wanted, the words stand for frames; if one has been read, for an item and frames.
use Prim.Native.Nat.{ℕ, ◌≤◌, ◌<◌}
use mathlib.Core.Path.{◌≡◌, sym, ◌∙◌}
use mathlib.Core.{Bool.{Bool, true, false, true≢false, false≢true}, List.{List, [], ◌∷◌}}
use mathlib.Core.Option.{none}
use native.Mathlib.Omega.{arith}
use lib.{Dec.{eqb}, ListN.{length}}
use Rattle.molang.specs.Operator
use Rattle.molang.specs.{Operator.{is_operator}, Forest.{Token, nil}, Order.{Rules}}
use Rattle.molang.specs.Grammar.{Text, tokens, rank, strength, outline, is_text, ends_operand, begins_with, trees}
use Rattle.scan.specs.{Laid.{laid_onto}, Entries.{nth, entries_of}, Views.{View, Lists}}
use Rattle.scan.specs.Turns.{Walking, Turning, want, have, done, gives_up, op_before, minus_class}
use Rattle.scan.proofs.Frames.{Frames, outside, waits, colon, closes}
use Rattle.scan.proofs.Frames.{after, laid_after, has_minus, Stated, Fits}
use Rattle.scan.proofs.{Frames.{Stacked}, Laying.{is_item}, Settling.{StackIs, Stands}, Told.{Told}, Reaching.{At, Seen}}

-- What is known before the walk: the table tells of operators; numbers are legal; places fit into fifteen bits; no list with semicolons.
pub record Known (r : Rules) (g : Walking) : Type 0 where
  pub told : Told r g.entry
  pub legal : (i : ℕ) → is_operator (nth g.tokens i).op ≡ true
  pub short : length g.tokens ≤ 4096
  pub unsplit : g.used Operator.semicolon ≡ false

module _ (r : Rules) (g : Walking) (h : Known r g) where
  abbrev pub T : List Token
  T = g.tokens

  abbrev pub told : Told r g.entry
  told = h.told

  abbrev pub grade : ℕ → ℕ
  grade = told.grade

  -- A minus after the operator is binary.
  abbrev pub Expected : ℕ → Type 0
  Expected n = eqb (minus_class (g.entry n)) 2 ≡ true

  abbrev pub lists : View → Lists
  lists v = record { stack = v.stack; records = v.records }

  -- An operand is wanted.
  pub record Awaits (v : View) : Type 0 where
    pub frames : Frames
    pub stacked : Stacked r Expected frames
    pub stack : StackIs T r grade frames v.stack
    pub records : entries_of T v.records ≡ laid_after frames
    pub place : At T v.left (after frames)
    pub seen : Seen g (after frames)
    pub expects : has_minus frames ≡ true → Expected (op_before g v.left)

  -- One has been read: an item.
  pub record Reads (v : View) : Type 0 where
    pub operand : Text
    pub frames : Frames
    pub read : List Token
    pub stands : Stands T r grade Expected none operand frames read (lists v)
    pub place : At T v.left read
    pub seen : Seen g read
    pub item : is_item operand ≡ true
    pub tight : rank r Operator.negate ≤ strength r operand
    pub signs : begins_with Operator.negate read ≡ true → eqb (op_before g v.left) Operator.negate ≡ false

  -- The list is read.
  pub record Finished (v : View) : Type 0 where
    pub text : Text
    pub formed : is_text r text ≡ true
    pub stated : Stated text
    pub same : tokens text [] ≡ T
    pub nodes : entries_of T v.records ≡ laid_onto (trees none text nil) []
    pub seen : Seen g T

  abbrev pub Holds : Turning → Type 0
  Holds (want v) = Awaits v
  Holds (have v) = Reads v
  Holds (done v) = Finished v
  Holds gives_up = Unit {0}

  -- ---- items

  -- An item fits what waits, if a minus that waits may follow it.
  pub item-fits : (x : Text) (W : Frames) → rank r Operator.negate ≤ strength r x → (outline x).is_open ≡ false
      → (has_minus W ≡ true → ends_operand x ≡ true) → Stacked r Expected W → Fits r x W
  unfolding has_minus
  item-fits x outside t s e k = tt
  item-fits x (waits j y W) t s e k = let l = k.0.loose in record { tight = omega (arith, t, l); ends = e }
  item-fits x (colon q d W) t s e k =
      let a = told.conditional in let b = told.sum in record { tight = omega (arith, t, a, b); shut = s }
  item-fits x (closes c W) t s e k = tt

  -- What has been read ends with an operand, if a minus waits.
  pub ends-before : (x : Text) (W : Frames) → Fits r x W → has_minus W ≡ true → ends_operand x ≡ true
  unfolding has_minus
  ends-before x outside f m = absurd (false≢true m)
  ends-before x (waits j y W) f m = f.ends m
  ends-before x (colon q d W) f m = absurd (false≢true m)
  ends-before x (closes c W) f m = absurd (false≢true m)

  -- A place of the list is below 32,768.
  pub small : (left : ℕ) (L : List Token) → At T left L → left < 32768
  small left L a = let p = a.place in let q = a.within in let s = h.short in omega (arith, p, q, s)

  -- What is to be known of an item that has been read.
  pub record Item (x : Text) (W : Frames) : Type 0 where
    pub text : is_text r x ≡ true
    pub stated : Stated x
    pub item : is_item x ≡ true
    pub tight : rank r Operator.negate ≤ strength r x
    pub shut : (outline x).is_open ≡ false
    pub ends : has_minus W ≡ true → ends_operand x ≡ true

  pub reads-item : (x : Text) (W : Frames) (left : ℕ) (S R : List ℕ) (L : List Token) → Item x W → Stacked r Expected W
      → StackIs T r grade W S → entries_of T R ≡ laid_onto (trees none x nil) (laid_after W) → tokens x (after W) ≡ L → At T left L → Seen g L
      → (begins_with Operator.negate L ≡ true → eqb (op_before g left) Operator.negate ≡ false)
      → Reads (record { left = left; stack = S; records = R })
  reads-item x W left S R L i k s e t a n b =
      record {
        operand = x;
        frames = W;
        read = L;
        stands = record {
          held = record {
            text = i.text;
            stated = i.stated;
            fits = item-fits x W i.tight i.shut i.ends k;
            stacked = k;
          };
          stack = s;
          records = e;
          read = t;
        };
        place = a;
        seen = n;
        item = i.item;
        tight = i.tight;
        signs = b;
      }

  -- A token that is no minus stands first.
  pub unsigned : (k : Token) (L : List Token) (b : Bool) → eqb k.op Operator.negate ≡ false → begins_with Operator.negate (k ∷ L) ≡ true → b ≡ false
  unfolding begins_with
  unsigned k L b d e = absurd (true≢false (sym e ∙ d))
