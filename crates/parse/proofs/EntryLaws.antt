-- The entry: what is loaded can be grouped, what was grouped is the definition's reading, and the four equations of a call that is read or
-- turned back.
use Prim.Native.Nat.{ℕ, ◌+◌, ◌*◌, ◌≤◌}
use mathlib.Core.{Path.{◌≡◌, refl, sym, ap, ◌∙◌, subst}, List.{List, [], ◌++◌}}
use native.Mathlib.Omega.{arith}
use lib.{IntN.{ℤ}, ListN.{length, replicate, take, drop, length-append, length-drop}, Seq.{length-take-le}}
use Rattle.levels.specs.declared.failure.Fault.{Fault}
use Rattle.std.specs.Prelude.{⊤, Result, Option, Some, None, Ok, Err}
use Rattle.molang.specs.{Forest.{leaves}, Order.{rules}, Read.{read}, Words.{tokens_of}}
use Rattle.molang.specs.Parse.{Call, reading, told, a_tree, answered, tree_in, tree_after, messages_in, messages_after, work_in, work_after}
use Rattle.molang.specs.Order as Order
use Rattle.molang.specs.Read as Reading
use Rattle.words.specs.Refusals.{reason_number}
use Rattle.words.specs.declared.refusals.Refusal as code
use Rattle.ops.specs.declared.sets.OpSet.{OpSet}
use Rattle.order.specs.Ranks.{used_by, rules_of}
use Rattle.accept.{specs.Accepting.{is_read, is_refused}, proofs.AcceptLaws.{checked, reads-call, refuses-call}}
use Rattle.buffers.{specs.Load.{CanLoad, Loaded}, proofs.Loading.{loaded-array}}
use Rattle.grouping.specs.{Group.{CanGroup, HasGrouped}}
use Rattle.scan.specs.{Walk.{CanWalk, TreeRead}, Walked.{HasWalked}}
use Rattle.parse.specs.{declared.Answer.{Answer}, declared.Answer.TheVariants.{Tree}, Answers.{HasParsed}}
use Rattle.parse.specs.Fills.{FilledAs, CanFill, Filled, CanRead, HasRead}

-- ---- `read`

pub read-load : {list W buffer m : List ℕ} {n : ℕ} → CanRead list W buffer m n → CanLoad list W n
read-load p = record { faultless = p.faultless; tokens = p.tokens; few = p.few; room = omega (arith, p.words) }

-- The passes by the rules of the effective version are the reading at the raw one.
same-reading : (list : List ℕ) (used : OpSet) (version effective : ℤ) → effective ≡ Order.effective version → (source_length : ℕ)
    → Reading.grouped source_length (used_by used) (Order.order (rules_of effective)) [] (leaves (tokens_of list))
    ≡ read (tokens_of list) (used_by used) version source_length
unfolding read rules
same-reading list used version effective e source_length =
    ap (λ (v : ℤ). Reading.grouped source_length (used_by used) (Order.order (rules_of v)) [] (leaves (tokens_of list))) e

module _ {list W buffer m : List ℕ} {n : ℕ} (p : CanRead list W buffer m n) (W1 : List ℕ) (loaded : Loaded list W n W1) (base : ℕ)
    (based : base ≡ 24 * n + 24) where
  abbrev pub read-group : CanGroup W1 base n
  read-group =
      record {
        tokens = tokens_of list;
        array = rw based (loaded-array loaded);
        based = based;
        room = omega (arith, p.words, loaded.long);
        few = p.few;
        small = omega (arith, p.words, p.few, loaded.long);
      }

  module _ (used : OpSet) (version effective : ℤ) (g : Result ⊤ Fault) (W2 : List ℕ) (grouped : HasGrouped W1 base n used effective g W2) where
    pub read-fill : (source_length : ℕ) → CanFill W2 buffer m n source_length g
    read-fill source_length =
        record {
          answer = _;
          stands = grouped.to read-group source_length;
          few = p.few;
          words = grouped.long ∙ (loaded.long ∙ p.words);
          tree-room = p.tree-room;
          message-room = p.message-room;
        }

    pub read_done : (source_length : ℕ) (r : Answer) (buffer' m' : List ℕ) → effective ≡ Order.effective version
        → Filled W2 buffer m n source_length g r buffer' m' → HasRead list buffer m source_length version used r buffer' m'
    read_done source_length r buffer' m' e v =
        record {
          holds = subst (λ (a : Reading.Answer). FilledAs buffer m r buffer' m' a) (same-reading list used version effective e source_length)
              (v.holds _ (grouped.to read-group source_length));
        }

-- ---- the walk, before the passes

pub read_walk : {list W buffer m : List ℕ} {n : ℕ} → CanRead list W buffer m n → CanWalk list W buffer n
read_walk p = record { faultless = p.faultless; tokens = p.tokens; few = p.few; words = p.words; tree-room = p.tree-room }

-- A tree that the walk read.
pub walk-done : (list buffer m : List ℕ) (source_length : ℕ) (version raw : ℤ) (used : OpSet) (nodes : ℕ) (buffer' : List ℕ) → raw ≡ version
    → (w : Option ℕ) → w ≡ Some nodes → HasWalked list (used_by used) raw buffer buffer' w
    → HasRead list buffer m source_length version used (Tree nodes) buffer' m
unfolding told tree_in messages_in
walk-done list buffer m source_length version raw used nodes buffer' v w e h =
    let t : TreeRead list (used_by used) version buffer nodes buffer' = subst (λ (z : ℤ). TreeRead list (used_by used) z buffer nodes buffer') v (subst (HasWalked list (used_by used) raw buffer buffer') e h) in
    record {
      holds = subst (λ (a : Reading.Answer). FilledAs buffer m (Tree nodes) buffer' m a) (sym (t.reads source_length))
          (record { tells = ap a_tree t.count; tree = t.words; records = refl });
    }

-- If it gave up, the tree buffer is as it was, and the buffers are as the passes ask for them.
pub walk_kept : (list buffer : List ℕ) (version : ℤ) (used : OpSet) (buffer' : List ℕ) (w : Option ℕ) → w ≡ None
    → HasWalked list (used_by used) version buffer buffer' w → buffer' ≡ buffer
walk_kept list buffer version used buffer' w e h = subst (HasWalked list (used_by used) version buffer buffer') e h

pub walk-left : {list W buffer m : List ℕ} {n : ℕ} → CanRead list W buffer m n → (W' buffer' : List ℕ) → length W' ≡ length W → buffer' ≡ buffer
    → CanRead list W' buffer' m n
walk-left {buffer = buffer} {n = n} p W' buffer' e b =
    record {
      faultless = p.faultless;
      tokens = p.tokens;
      few = p.few;
      words = e ∙ p.words;
      tree-room = subst (λ (l : List ℕ). 21 * n ≤ length l) (sym b) p.tree-room;
      message-room = p.message-room;
    }

pub walk-then : (list buffer m : List ℕ) (source_length : ℕ) (version raw : ℤ) (used : OpSet) (r : Answer) (buffer₁ buffer' m' : List ℕ)
    → raw ≡ version → buffer₁ ≡ buffer → HasRead list buffer₁ m source_length raw used r buffer' m'
    → HasRead list buffer m source_length version used r buffer' m'
walk-then list buffer m source_length version raw used r buffer₁ buffer' m' v b h =
    subst (λ (z : ℤ). HasRead list buffer m source_length z used r buffer' m') v
    (subst (λ (l : List ℕ). HasRead list l m source_length raw used r buffer' m') b h)

-- ---- the entry

pub refused-meets : (c : Call) (x : code.Refusal) → is_refused (reason_number x.reason) x.place ≡ checked c
    → HasParsed c (Err x) c.tree c.messages c.work
unfolding answered told tree_after tree_in messages_after messages_in work_after work_in
refused-meets c x e =
    let r = refuses-call c _ _ e in
    record { told = rw r; tree = rw r; messages = rw r; work = rw r }

pub read_meets : (c : Call) (n : ℕ) (r : Answer) (tree messages work : List ℕ) → is_read n ≡ checked c
    → HasRead c.list c.tree c.messages c.source_length c.version (record { low = c.used_low; high = c.used_high })
    r tree messages
    → work ≡ replicate (length c.work) 0 → HasParsed c (Ok r) tree messages work
unfolding answered reading tree_after messages_after work_after work_in
read_meets c n r tree messages work e v cleared =
    let none-refused = (reads-call c n e).0 in
    record {
      told = rw none-refused v.holds.tells;
      tree = rw none-refused v.holds.tree;
      messages = rw none-refused v.holds.records;
      work = rw none-refused cleared;
    }

-- The words that are handed on are just those that the tokens need.
pub call-reads : (c : Call) (n : ℕ) → is_read n ≡ checked c → CanRead c.list (take (64 * n + 64) c.work) c.tree c.messages n
call-reads c n e =
    let p = (reads-call c n e).1 in
    record {
      faultless = p.good;
      tokens = p.words;
      few = p.tokens;
      words = length-take-le (64 * n + 64) c.work p.work;
      tree-room = p.tree;
      message-room = p.messages;
    }

-- A buffer whose front was lent and came back as long as it was.
pub part-long : (front work : List ℕ) (k : ℕ) → k ≤ length work → length front ≡ length (take k work)
    → length (front ++ drop k work) ≡ length work
part-long front work k h e = omega (arith, length-append front (drop k work), length-drop k work, length-take-le k work h)
