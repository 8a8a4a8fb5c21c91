-- Filling the caller's buffers: roots by their number, and each failure, are what the definition's answer says of the buffers.
use Prim.Native.Nat.{ℕ, ◌+◌, ◌*◌, ◌≤◌}
use mathlib.Core.{Path.{◌≡◌, refl, sym, ap, ◌∙◌, subst}, Logic.{◌≢◌}, List.{List, [], ◌∷◌, ◌++◌}}
use native.Mathlib.Omega.{arith}
use lib.ListN.{length, length-append}
use Rattle.std.specs.Prelude.{⊤, Result, Ok, Err}
use Rattle.molang.specs.{Forest.{Token, Forest, nil, node, count, size}, Message.{message_record, multiple_roots}, Read.{rooted}}
use Rattle.molang.specs.Parse.{in_front, told, tree_in, messages_in}
use Rattle.molang.specs.Read as reading
use Rattle.words.{specs.Records.{laid_at}, proofs.RecordLaws.{laid-front}}
use Rattle.nodes.specs.Store.{slot_end, first_at, next_at}
use Rattle.buffers.{specs.Emit.{Linked, CanLayOut, LaidOut}, proofs.Linking.{owned-linked, linked-nil, linked-none, linked-open}}
use Rattle.levels.specs.Failures as failures
use Rattle.grouping.specs.{Grouped.{StandsFor, roots, failed, mismatched, unclosed, pointer_failed}}
use Rattle.levels.specs.declared.failure.Fault.{Fault}
use Rattle.levels.specs.declared.failure.Fault.TheVariants.{Failed, Mismatched, Unclosed as Unclosing, PointerFailed}
use Rattle.levels.specs.{declared.failure.Failure.{Failure}, declared.failure.Mismatch.{Mismatch}, declared.failure.Unclosed.{Unclosed}}
use Rattle.parse.specs.{declared.Answer.{Answer}, declared.Answer.TheVariants.{Tree, Messages}}
use Rattle.parse.specs.{Reports.{CanReport, Reported, CanReportTwo, CanReportRoots, RootsReported}, Fills.{FilledAs, CanFill, Filled}}
use Rattle.parse.proofs.{RecordLaws.{says-one, tells-one}, ReportLaws.{one-record}}

-- ---- the roots

-- The roots that an answer stands for.
record RootsOf (W : List ℕ) (root n source_length : ℕ) (answer : reading.Answer) : Type 0 where
  f : Forest
  answers : rooted source_length [] f ≡ answer
  linked : Linked W root (3 * n + 3) f
  nodes : size f ≤ 3 * n

roots-of : {W : List ℕ} {root n source_length : ℕ} {answer : reading.Answer} → root ≡ first_at W 0
    → StandsFor W (3 * n + 3) n source_length (Ok tt) answer
    → RootsOf W root n source_length answer
roots-of e (roots {f = f} o h) = record { f = f; answers = refl; linked = rw e (owned-linked o); nodes = h }

-- No root: a forest that is not empty has its first node somewhere.
not-nil : {k : Token} {cs rest : Forest} → node k cs rest ≡ nil → ⊥
not-nil e = unfold size in let z = ap size e in omega arith

module _ {W buffer m : List ℕ} {n source_length : ℕ} (p : CanFill W buffer m n source_length (Ok tt)) (root : ℕ)
    (first : root ≡ first_at W 0) where
  v : RootsOf W root n source_length p.answer
  v = roots-of first p.stands

  filled-by : (r : Answer) (buffer' m' : List ℕ)
      → ((f : Forest) → Linked W root (3 * n + 3) f → FilledAs buffer m r buffer' m' (rooted source_length [] f))
      → Filled W buffer m n source_length (Ok tt) r buffer' m'
  filled-by r buffer' m' h =
      record {
        holds = λ answer s.
            let w = roots-of first s in
            subst (λ (a : reading.Answer). FilledAs buffer m r buffer' m' a) w.answers (h w.f w.linked);
      }

  pub none_filled : (m' : List ℕ) → root ≡ 0 → m' ≡ laid_at 0 (message_record (multiple_roots 0 source_length 0)) m
      → Filled W buffer m n source_length (Ok tt) (Messages 1) buffer m'
  unfolding rooted told tree_in messages_in
  none_filled m' z e = filled-by (Messages 1) buffer m' go
    where
      go : (f : Forest) → Linked W root (3 * n + 3) f → FilledAs buffer m (Messages 1) buffer m' (rooted source_length [] f)
      go nil w =
          let k = multiple_roots 0 source_length 0 in
          record {
            tells = refl;
            tree = refl;
            records = e ∙ (laid-front (message_record k) m ∙ ap (λ (ws : List ℕ). in_front ws m) (sym (one-record k)));
          }
      go (node k cs rest) w = absurd (not-nil (linked-none w z))

  module _ (some : root ≢ 0) where
    pub root-within : slot_end root ≤ length W
    root-within = go v.f v.linked
      where
        go : (f : Forest) → Linked W root (3 * n + 3) f → slot_end root ≤ length W
        go nil w = absurd (some (linked-nil w))
        go (node k cs rest) w = omega (arith, (linked-open w).inside, p.words)

    pub several-room : next_at W root ≢ 0 → CanReportRoots W m root n
    unfolding count
    several-room next = go v.f v.linked v.nodes
      where
        go : (f : Forest) → Linked W root (3 * n + 3) f → size f ≤ 3 * n → CanReportRoots W m root n
        go nil w h = absurd (some (linked-nil w))
        go (node k cs nil) w h = absurd (next (linked-nil (linked-open w).after))
        go (node k cs (node l ls rest)) w h =
            record {
              measure = record { trees = node k cs (node l ls rest); linked = w; nodes = h; few = p.few; room = omega (arith, p.words) };
              several = omega arith;
              room = p.message-room;
            }

    pub several-filled : (W' m' : List ℕ) → next_at W root ≢ 0 → RootsReported W m root n W' m'
        → Filled W buffer m n source_length (Ok tt) (Messages 1) buffer m'
    unfolding count rooted told tree_in
    several-filled W' m' next u = filled-by (Messages 1) buffer m' go
      where
        go : (f : Forest) → Linked W root (3 * n + 3) f → FilledAs buffer m (Messages 1) buffer m' (rooted source_length [] f)
        go nil w = absurd (some (linked-nil w))
        go (node k cs nil) w = absurd (next (linked-nil (linked-open w).after))
        go (node k cs (node l ls rest)) w =
            record { tells = refl; tree = refl; records = u.message (node k cs (node l ls rest)) w (omega arith) source_length }

    pub one-room : CanLayOut W buffer root n
    one-room =
        record {
          trees = v.f;
          linked = v.linked;
          nodes = v.nodes;
          few = p.few;
          work-room = omega (arith, p.words);
          tree-room = p.tree-room;
        }

    pub one-filled : (nodes : ℕ) (W' buffer' : List ℕ) → next_at W root ≡ 0 → LaidOut W buffer root n nodes W' buffer'
        → Filled W buffer m n source_length (Ok tt) (Tree nodes) buffer' m
    unfolding rooted told tree_in messages_in
    one-filled nodes W' buffer' next u = filled-by (Tree nodes) buffer' m go
      where
        go : (f : Forest) → Linked W root (3 * n + 3) f → FilledAs buffer m (Tree nodes) buffer' m (rooted source_length [] f)
        go nil w = absurd (some (linked-nil w))
        go (node k cs nil) w =
            record { tells = rw (u.count (node k cs nil) w); tree = u.words (node k cs nil) w; records = refl }
        go (node k cs (node l ls rest)) w = absurd (not-nil (linked-none (linked-open w).after next))

-- ---- the failures

pub fill-report : {W buffer m : List ℕ} {n source_length : ℕ} {g : Result ⊤ Fault} → CanFill W buffer m n source_length g
    → CanReport W m source_length g
fill-report {n = n} p =
    record {
      hi = 3 * n + 3;
      n = n;
      answer = p.answer;
      stands = p.stands;
      whole = omega (arith, p.words);
      some = omega (arith, p.words);
      room = p.message-room;
    }

pub fill-report-two : {W buffer m : List ℕ} {n source_length : ℕ} {g : Result ⊤ Fault} → CanFill W buffer m n source_length g → CanReportTwo W m g
fill-report-two {source_length = source_length} p = record { source_length = source_length; can = fill-report p }

module _ (W buffer m m' : List ℕ) (n source_length : ℕ) where
  pub failed-filled : {f : Failure} → Reported W m source_length (Err (Failed f)) m'
      → Filled W buffer m n source_length (Err (Failed f)) (Messages 1) buffer m'
  unfolding told tree_in
  failed-filled {f} u = record { holds = go }
    where
      go : (a : reading.Answer) → StandsFor W (3 * n + 3) n source_length (Err (Failed f)) a → FilledAs buffer m (Messages 1) buffer m' a
      go a (failed {ms = ms} s) =
          record { tells = rw (says-one s); tree = refl; records = u.records (3 * n + 3) n (reading.messages ms) (failed s) }

  pub pointer-filled : {f : Failure} → Reported W m source_length (Err (PointerFailed f)) m'
      → Filled W buffer m n source_length (Err (PointerFailed f)) (Messages 2) buffer m'
  unfolding told tree_in
  pointer-filled {f} u = record { holds = go }
    where
      go : (a : reading.Answer) → StandsFor W (3 * n + 3) n source_length (Err (PointerFailed f)) a → FilledAs buffer m (Messages 2) buffer m' a
      go a (pointer_failed {ms = ms} t) =
          let two : length (ms ++ (multiple_roots 0 source_length 0 ∷ [])) ≡ 2 =
          omega (arith, length-append ms (multiple_roots 0 source_length 0 ∷ []), tells-one t) in
          record { tells = rw two; tree = refl; records = u.records (3 * n + 3) n _ (pointer_failed t) }

  pub mismatch-filled : {k : Mismatch} → Reported W m source_length (Err (Mismatched k)) m'
      → Filled W buffer m n source_length (Err (Mismatched k)) (Messages 2) buffer m'
  unfolding told tree_in
  mismatch-filled {k} u = record { holds = go }
    where
      go : (a : reading.Answer) → StandsFor W (3 * n + 3) n source_length (Err (Mismatched k)) a → FilledAs buffer m (Messages 2) buffer m' a
      go a (mismatched (failures.mismatched s t w)) =
          record { tells = refl; tree = refl; records = u.records (3 * n + 3) n _ (mismatched {m = k} (failures.mismatched s t w)) }

  pub unclosed-filled : {k : Unclosed} → Reported W m source_length (Err (Unclosing k)) m'
      → Filled W buffer m n source_length (Err (Unclosing k)) (Messages 2) buffer m'
  unfolding told tree_in
  unclosed-filled {k} u = record { holds = go }
    where
      go : (a : reading.Answer) → StandsFor W (3 * n + 3) n source_length (Err (Unclosing k)) a → FilledAs buffer m (Messages 2) buffer m' a
      go a (unclosed (failures.unclosed s t)) =
          record { tells = refl; tree = refl; records = u.records (3 * n + 3) n _ (unclosed {u = k} (failures.unclosed s t)) }
