-- The flat passes in the reading: each one, where it runs, takes the definition's reading on to the next pass, or ends it. What they leave
-- is no heavier than the tokens.
use Prim.Native.Nat.{ℕ, suc, ◌+◌, ◌*◌, ◌-◌, ◌≤◌, ◌<◌}
use mathlib.Core.{Path.{◌≡◌, refl, sym, ap, ◌∙◌, subst}, Logic.{◌≢◌}, Bool.{Bool, true, false}, List.{List, [], ◌∷◌}}
use mathlib.Core.Option.{Option, none, some}
use native.Mathlib.{Omega.{arith}, Nat.{le_refl}}
use lib.{Dec.{eqb}, ListN.{length}}
use borrow.Author.Tests.{eq-eqb, ne_eqb}
use Rattle.molang.specs.Operator
use Rattle.molang.specs.{Forest.{Token, Forest, nil, leaves, count}, Message.{Message, complex_must_end_with_semicolon, Result, ok, fail}}
use Rattle.molang.specs.Sections.{members, outside, sections}
use Rattle.molang.specs.Order.{Pass, last_token, member_accessors, sectioning, runs, last_of, ends_with_semicolon, apply}
use Rattle.molang.specs.{Read.{Answer, messages, ends_reading, grouped}, Free.{flat}, Weight.{weight, node_weight}}
use Rattle.molang.proofs.{Walks.{failed, fine}, Sections.{Flat, Sectioned, leaves-flat, members-light, sections-light}}
use Rattle.molang.proofs.Bounds.{leaves-weight}
use Rattle.ops.specs.declared.sets.OpSet.{OpSet}
use Rattle.nodes.specs.{Store.{wd, TokenAt, Seg, RepF, ends, more}, Slots.{op_at}}
use Rattle.nodes.proofs.{Store.{reserve-pos, rep-count}, Tokens.{token-op}}
use Rattle.std.specs.Prelude.{Result as Returned, Ok, Err}
use Rattle.grouping.specs.Grouped.{tells, not_ended, without_tokens, StandsFor}
use Rattle.levels.specs.{declared.failure.Failure.{Failure}, declared.failure.Fault.{Fault}, declared.failure.Fault.TheVariants.{Failed}}
use Rattle.grouping.specs.Group.{CanGroup, FlatTo, if_run, EndsTo, ended, unended, EndsRight, JoinedIf, SectionedIf, Flattened}
use Rattle.grouping.specs.Grouped as stands
use Rattle.levels.specs.declared.failure.Failure.TheVariants.{ComplexMustEndWithSemicolon, ComplexWithoutTokens}
use Rattle.levels.proofs.Reading.{when_true, when_false}
use Rattle.order.{specs.Ranks.{used_by}, proofs.Folding.{failed as failing, next, run-first, skip_first}}
use Rattle.sections.specs.Flat.{FlatTells, failed, mismatched, unclosed, Fails, Answers, CanJoin, Joined, CanSection}
use Rattle.levels.specs.Failures.{Tells}
use Rattle.sections.proofs.{SectionCases.{found}}
use Rattle.sections.specs.Flat as pass

-- ---- one pass of the reading

if-run : (b : Bool) (p : Forest → Result) (f : Forest) → b ≡ true → if_run b p f ≡ p f
if-run b p f e = unfold if_run in rw e

if-skipped : (b : Bool) (p : Forest → Result) (f : Forest) → b ≡ false → if_run b p f ≡ ok f
if-skipped b p f e = unfold if_run in rw e

-- a pass p of the reading, which makes q of a list f
module _ (n : ℕ) (u : ℕ → Bool) (p : Pass) (ps : List Pass) (f : Forest) (q : Forest → Result) (does : apply n p f ≡ q f) where
  -- it leaves a list, from which the passes after it go on
  read-on : (g : Forest) → if_run (runs u p) q f ≡ ok g → grouped n u (p ∷ ps) [] f ≡ grouped n u ps [] g
  read-on g e = go (runs u p) refl
    where
      go : (b : Bool) → runs u p ≡ b → grouped n u (p ∷ ps) [] f ≡ grouped n u ps [] g
      go true h = run-first n u p h ps [] f ∙ ap (next n u p ps []) (does ∙ (sym (if-run (runs u p) q f h) ∙ e))
      go false h =
          let same : ok f ≡ ok g = sym (if-skipped (runs u p) q f h) ∙ e in
          let same' : f ≡ g = cc in
          skip_first n u p h ps [] f ∙ ap (grouped n u ps []) same'

  -- or it fails, which ends the reading
  read_out : (ms : List Message) → ends_reading p ≡ true → if_run (runs u p) q f ≡ fail ms → grouped n u (p ∷ ps) [] f ≡ messages ms
  read_out ms last e = go (runs u p) refl
    where
      go : (b : Bool) → runs u p ≡ b → grouped n u (p ∷ ps) [] f ≡ messages ms
      go true h =
          run-first n u p h ps [] f
          ∙ (ap (next n u p ps []) (does ∙ (sym (if-run (runs u p) q f h) ∙ e)) ∙ ap (failing n u p ps [] ms) last)
      go false h =
          let differ : ok f ≡ fail ms = sym (if-skipped (runs u p) q f h) ∙ e in
          let z : ◌≡◌ {A = ℕ} 0 1 = cc in absurd (omega arith)

-- ---- the last token

-- the last of the trees, which come after `before`
pub record LastAt (W : List ℕ) (s hi : ℕ) (before : Option Token) (f : Forest) : Type 0 where
  pub k : Token
  pub is : last_of before f ≡ some k
  pub token : TokenAt W s k
  pub below : s < hi

last-at : {W X bs : List ℕ} {lo hi : ℕ} {f : Forest} (at : ℕ) (before : Option Token) → RepF W X bs lo hi f → Seg W at bs → 0 < length bs
    → LastAt W (wd W (at + length bs - 1)) hi before f
unfolding last_of
last-at at before (ends h) g some-bs = absurd (omega arith)
last-at {W} at before (more {b = b} {t = t} {k = k} a c d z o tk n ch ks (ends h)) g some-bs =
    let own = reserve-pos t k in
    let is : wd W (at + length (b ∷ []) - 1) ≡ b = ap (wd W) (omega arith) ∙ g.0 in
    record { k = t; is = refl; token = subst (λ (x : ℕ). TokenAt W x t) (sym is) tk; below = omega arith }
last-at {W} {hi = hi} at before (more {b = b} {bs = bs} {t = t} a c d z o tk n ch ks (more a' c' d' z' o' tk' n' ch' ks' r)) g some-bs =
    let later = last-at (at + 1) (some t) (more a' c' d' z' o' tk' n' ch' ks' r) g.1 (omega arith) in
    let same : wd W (at + 1 + length bs - 1) ≡ wd W (at + length (b ∷ bs) - 1) = ap (wd W) (omega arith) in
    record {
      k = later.k;
      is = later.is;
      token = subst (λ (x : ℕ). TokenAt W x later.k) same later.token;
      below = omega (arith, later.below);
    }

leaves-count : (ks : List Token) → count (leaves ks) ≡ length ks
unfolding count leaves
leaves-count [] = refl
leaves-count (k ∷ ks) = ap suc (leaves-count ks)

token-count : {W : List ℕ} {base n : ℕ} (g : CanGroup W base n) → n ≡ length g.tokens
token-count g = g.array.count ∙ (rep-count g.array.rep ∙ leaves-count g.tokens)

pub last-token : {W : List ℕ} {base n : ℕ} (g : CanGroup W base n) → n ≢ 0
    → LastAt W (wd W (base + n - 1)) (3 * n + 3) none (leaves g.tokens)
last-token {W} {base} {n} g there =
    let e = g.array.count in
    subst (λ (x : ℕ). LastAt W (wd W (base + x - 1)) (3 * n + 3) none (leaves g.tokens)) (sym e)
    (last-at base none g.array.rep g.array.seg (omega arith))

-- `ends_with_semicolon` by the last token
ends-empty : (l : ℕ) (ks : List Token) → length ks ≡ 0 → ends_with_semicolon l (leaves ks) ≡ fail (complex_must_end_with_semicolon 0 l ∷ [])
unfolding ends_with_semicolon last_of leaves
ends-empty l [] e = refl
ends-empty l (k ∷ ks) e = absurd (omega arith)

ends-semicolon : (l : ℕ) (f : Forest) (k : Token) → last_of none f ≡ some k → k.op ≡ Operator.semicolon → ends_with_semicolon l f ≡ ok f
unfolding ends_with_semicolon
ends-semicolon l f k e h =
    found (last_of none f) k _ _ e ∙ when_true (eqb k.op Operator.semicolon) _ _ (eq-eqb k.op Operator.semicolon h)

ends-other : (l : ℕ) (f : Forest) (k : Token) → last_of none f ≡ some k → k.op ≢ Operator.semicolon
    → ends_with_semicolon l f ≡ fail (complex_must_end_with_semicolon k.start k.end ∷ [])
unfolding ends_with_semicolon
ends-other l f k e h = found (last_of none f) k _ _ e ∙ when_false (eqb k.op Operator.semicolon) _ _ (ne_eqb k.op Operator.semicolon h)

module _ {W : List ℕ} {base n : ℕ} {used : OpSet} where
  pub last-unused : runs (used_by used) last_token ≡ false → EndsRight W base n used (Ok tt)
  last-unused e = record { to = λ g l. ended (if-skipped (runs (used_by used) last_token) (ends_with_semicolon l) (leaves g.tokens) e) }

  module _ (e : runs (used_by used) last_token ≡ true) where
    pub last-missing : n ≡ 0 → EndsRight W base n used (Err ComplexWithoutTokens)
    last-missing missing =
        record {
          to = λ g l.
              unended (if-run (runs (used_by used) last_token) (ends_with_semicolon l) (leaves g.tokens) e
              ∙ ends-empty l g.tokens (omega (arith, token-count g))) without_tokens;
        }

    pub last-semicolon : n ≢ 0 → op_at W (wd W (base + n - 1)) ≡ Operator.semicolon → EndsRight W base n used (Ok tt)
    last-semicolon there h =
        record {
          to = λ g l.
              let at = last-token g there in
              ended (if-run (runs (used_by used) last_token) (ends_with_semicolon l) (leaves g.tokens) e
              ∙ ends-semicolon l (leaves g.tokens) at.k at.is (sym (token-op at.token) ∙ h));
        }

    pub last-other : n ≢ 0 → op_at W (wd W (base + n - 1)) ≢ Operator.semicolon
        → EndsRight W base n used (Err (ComplexMustEndWithSemicolon (wd W (base + n - 1))))
    last-other there h =
        record {
          to = λ g l.
              let at = last-token g there in
              unended (if-run (runs (used_by used) last_token) (ends_with_semicolon l) (leaves g.tokens) e
              ∙ ends-other l (leaves g.tokens) at.k at.is (λ is. h (token-op at.token ∙ is))) (not_ended at.token);
        }

-- ---- members and sections, where they run

pub joined-used : {W W' : List ℕ} {base n : ℕ} {used : OpSet} {r : Returned ℕ Failure} → runs (used_by used) member_accessors ≡ true → Joined W base n r W'
    → JoinedIf W base n used r W'
joined-used {W} {W'} {base} {n} {used} {r} e w =
    record {
      answer = λ g.
          subst (λ (x : Result). Answers (Tells W') W' g.X base g.lo g.hi n x r)
          (sym (if-run (runs (used_by used) member_accessors) (members nil) (leaves g.ks) e)) (w.answer g);
      long = w.long;
    }

pub joined-unused : {W : List ℕ} {base n : ℕ} {used : OpSet} → runs (used_by used) member_accessors ≡ false
    → JoinedIf W base n used (Ok n) W
joined-unused {n = n} {used = used} e =
    record {
      answer = λ g.
          record {
            forest = leaves g.ks;
            is = if-skipped (runs (used_by used) member_accessors) (members nil) (leaves g.ks) e;
            array = g.array;
            fewer = le_refl n;
          };
      long = refl;
    }

pub sectioned-used : {W W' : List ℕ} {base n : ℕ} {used : OpSet} {r : Returned ℕ Fault} → runs (used_by used) sectioning ≡ true
    → pass.Sectioned W base n r W'
    → SectionedIf W base n used r W'
sectioned-used {W} {W'} {base} {n} {used} {r} e w =
    record {
      answer = λ g.
          subst (λ (x : Result). Answers (FlatTells W') W' g.X base g.lo g.hi n x r)
          (sym (if-run (runs (used_by used) sectioning) (sections 0 (outside nil)) g.f e)) (w.answer g);
      long = w.long;
    }

pub sectioned-unused : {W : List ℕ} {base n : ℕ} {used : OpSet} → runs (used_by used) sectioning ≡ false
    → SectionedIf W base n used (Ok n) W
sectioned-unused {n = n} {used = used} e =
    record {
      answer = λ g.
          record {
            forest = g.f;
            is = if-skipped (runs (used_by used) sectioning) (sections 0 (outside nil)) g.f e;
            array = g.array;
            fewer = le_refl n;
          };
      long = refl;
    }

-- what they leave is flat, and no heavier

pub joined-light : (b : Bool) (ks : List Token) (f : Forest) → if_run b (members nil) (leaves ks) ≡ ok f
    → (weight node_weight f ≤ weight node_weight (leaves ks)) × (flat f ≡ true)
unfolding if_run weight flat
joined-light false ks f e =
    let same : leaves ks ≡ f = cc in (omega (arith, ap (weight node_weight) same), ap flat (sym same) ∙ leaves-flat ks)
joined-light true ks f e = list (members-light node_weight ks nil (weight node_weight (leaves ks)) (omega arith) refl) e
  where
    list : {n : ℕ} {x : Result} → Flat node_weight n x → x ≡ ok f → (weight node_weight f ≤ n) × (flat f ≡ true)
    list (failed o) e = let z : ◌≡◌ {A = ℕ} 0 1 = cc in absurd (omega arith)
    list (fine {g = g} h) e = let same : g ≡ f = cc in (omega (arith, ap (weight node_weight) same, h.0), ap flat (sym same) ∙ h.1)

sectioned-light : (b : Bool) (f g : Forest) → flat f ≡ true → if_run b (sections 0 (outside nil)) f ≡ ok g
    → weight node_weight g ≤ weight node_weight f
unfolding if_run
sectioned-light false f g h e = let same : f ≡ g = cc in omega (arith, ap (weight node_weight) same)
sectioned-light true f g h e = list (sections-light node_weight f h) e
  where
    list : {n : ℕ} {x : Result} → Sectioned node_weight n x → x ≡ ok g → weight node_weight g ≤ n
    list (failed o) e = let z : ◌≡◌ {A = ℕ} 0 1 = cc in absurd (omega arith)
    list (fine {g = f} h) e = let same : f ≡ g = cc in omega (arith, ap (weight node_weight) same, h)

-- ---- one after another

abbrev pub group-joins : {W : List ℕ} {base n : ℕ} → CanGroup W base n → CanJoin W base n
group-joins {n = n} g =
    record {
      X = 0 ∷ [];
      lo = 3;
      hi = 3 * n + 3;
      ks = g.tokens;
      array = g.array;
      below = omega (arith, g.based);
      room = omega (arith, g.based, g.room);
    }

abbrev pub group-sections : {W W' : List ℕ} {base n m : ℕ} {used : OpSet} → CanGroup W base n → JoinedIf W base n used (Ok m) W'
    → CanSection W' base m
group-sections {n = n} {used = used} g w =
    let a = w.answer (group-joins g) in
    record {
      X = 0 ∷ [];
      lo = 3;
      hi = 3 * n + 3;
      f = a.forest;
      array = a.array;
      is_flat = (joined-light (runs (used_by used) member_accessors) g.tokens a.forest a.is).1;
      below = omega (arith, g.based);
      room = omega (arith, g.based, g.room, a.fewer, w.long);
      small = omega (arith, g.few, a.fewer);
    }

ended_is : {W : List ℕ} {l : ℕ} {x : Result} {f : Forest} → EndsTo W l x f (Ok tt) → x ≡ ok f
ended_is (ended e) = e

-- the messages of a failed flat pass are the answer of the reading
module _ (W : List ℕ) (base n l : ℕ) (u : ℕ → Bool) (ps : List Pass) where
  told-to : {fault : Fault} {ms : List Message} → FlatTells W fault ms → FlatTo W base n l u ps (messages ms) (Err fault)
  told-to (failed t) = stands.failed (tells t)
  told-to (mismatched t) = stands.mismatched t
  told-to (unclosed t) = stands.unclosed t

  fails-to : {answer : Answer} (fault : Fault) (x : Result) → ((ms : List Message) → x ≡ fail ms → answer ≡ messages ms)
      → Fails (FlatTells W) x fault → FlatTo W base n l u ps answer (Err fault)
  fails-to fault x h v =
      subst (λ (a : Answer). FlatTo W base n l u ps a (Err fault)) (sym (h v.messages v.is)) (told-to v.told)

module _ {W : List ℕ} {base n : ℕ} {used : OpSet} where
  -- the last token is wrong
  pub flat-unended : (f : Failure) → EndsRight W base n used (Err f) → Flattened W base n used (Err (Failed f)) W
  unfolding apply ends_reading
  flat-unended f w = record { to = λ g l ps. go g l ps (w.to g l); long = refl }
    where
      go : (g : CanGroup W base n) (l : ℕ) (ps : List Pass)
          → EndsTo W l (if_run (runs (used_by used) last_token) (ends_with_semicolon l) (leaves g.tokens)) (leaves g.tokens) (Err f)
          → FlatTo W base n l (used_by used) ps (grouped l (used_by used)
          (last_token ∷ member_accessors ∷ sectioning ∷ ps) [] (leaves g.tokens)) (Err (Failed f))
      go g l ps (unended {ms = ms} e s) =
          subst (λ (a : Answer). StandsFor W (3 * n + 3) n l (Err (Failed f)) a)
          (sym (read_out l (used_by used) last_token (member_accessors ∷ sectioning ∷ ps) (leaves g.tokens)
          (ends_with_semicolon l) refl ms refl e))
          (stands.failed s)

  module _ (w : EndsRight W base n used (Ok tt)) where
    -- the last token is right, and the reading goes on with the members
    first_on : (g : CanGroup W base n) (l : ℕ) (ps : List Pass)
        → grouped l (used_by used) (last_token ∷ ps) [] (leaves g.tokens) ≡ grouped l (used_by used) ps [] (leaves g.tokens)
    unfolding apply
    first_on g l ps =
        read-on l (used_by used) last_token ps (leaves g.tokens) (ends_with_semicolon l) refl (leaves g.tokens)
        (ended_is (w.to g l))

    -- a member accessor leads
    pub flat-unjoined : {W' : List ℕ} (f : Failure) → JoinedIf W base n used (Err f) W' → Flattened W base n used (Err (Failed f)) W'
    unfolding apply ends_reading
    flat-unjoined {W'} f v =
        record {
          to = λ g l ps.
              let a = v.answer (group-joins g) in
              fails-to W' base n l (used_by used) ps (Failed f) (if_run (runs (used_by used) member_accessors) (members nil) (leaves g.tokens))
              (λ ms e. first_on g l (member_accessors ∷ sectioning ∷ ps)
              ∙ read_out l (used_by used) member_accessors (sectioning ∷ ps) (leaves g.tokens) (members nil) refl ms refl e)
              (record { messages = a.messages; is = a.is; told = failed a.told });
          long = v.long;
        }

    module _ {W1 : List ℕ} {m1 : ℕ} (v : JoinedIf W base n used (Ok m1) W1) where
      second-on : (g : CanGroup W base n) (l : ℕ) (ps : List Pass)
          → grouped l (used_by used) (last_token ∷ member_accessors ∷ ps) [] (leaves g.tokens)
          ≡ grouped l (used_by used) ps [] (v.answer (group-joins g)).forest
      unfolding apply
      second-on g l ps =
          first_on g l (member_accessors ∷ ps)
          ∙ read-on l (used_by used) member_accessors ps (leaves g.tokens) (members nil) refl (v.answer (group-joins g)).forest
          (v.answer (group-joins g)).is

      third-out : (g : CanGroup W base n) (l : ℕ) (ps : List Pass) (ms : List Message)
          → if_run (runs (used_by used) sectioning) (sections 0 (outside nil)) (v.answer (group-joins g)).forest ≡ fail ms
          → grouped l (used_by used) (last_token ∷ member_accessors ∷ sectioning ∷ ps) [] (leaves g.tokens) ≡ messages ms
      unfolding apply ends_reading
      third-out g l ps ms e =
          second-on g l (sectioning ∷ ps)
          ∙ read_out l (used_by used) sectioning ps (v.answer (group-joins g)).forest (sections 0 (outside nil)) refl ms refl e

      -- the sections, whatever becomes of them
      pub flat-sectioned : {W' : List ℕ} (r : Returned ℕ Fault) → SectionedIf W1 base m1 used r W' → Flattened W base n used r W'
      unfolding apply ends_reading
      flat-sectioned {W'} r z = record { to = λ g l ps. go g l ps r (z.answer (group-sections g v)); long = z.long ∙ v.long }
        where
          go : (g : CanGroup W base n) (l : ℕ) (ps : List Pass) (r : Returned ℕ Fault)
              → Answers (FlatTells W') W' (0 ∷ []) base 3 (3 * n + 3) m1 (if_run (runs (used_by used) sectioning) (sections 0 (outside nil))
              (v.answer (group-joins g)).forest) r
              → FlatTo W' base n l (used_by used) ps (grouped l (used_by used)
              (last_token ∷ member_accessors ∷ sectioning ∷ ps) [] (leaves g.tokens)) r
          go g l ps (Ok k) a =
              let f = v.answer (group-joins g) in
              let joined = joined-light (runs (used_by used) member_accessors) g.tokens f.forest f.is in
              let sectioned = sectioned-light (runs (used_by used) sectioning) f.forest a.forest joined.1 a.is in
              record {
                forest = a.forest;
                is = second-on g l (sectioning ∷ ps)
                    ∙ read-on l (used_by used) sectioning ps f.forest (sections 0 (outside nil)) refl a.forest a.is;
                array = a.array;
                fewer = omega (arith, a.fewer, f.fewer);
                light = omega (arith, joined.0, leaves-weight g.tokens, token-count g);
              }
          go g l ps (Err fault) a = fails-to W' base n l (used_by used) ps fault _ (third-out g l ps) a
