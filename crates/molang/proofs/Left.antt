-- Both reading entries come to what their reading and their table of refusals say, and to nothing else.
use Prim.Native.Nat.{ℕ}
use mathlib.Core.{Path.{◌≡◌, refl}, List.{List, []}, Option.{Option, none, some}}
use Rattle.molang.specs.Words.{Refusal, tokens_of}
use Rattle.molang.specs.Parse.{Call, refusal, reading, told, answered, in_halves, tree_in, tree_after, messages_in, messages_after, work_in}
use Rattle.molang.specs.Parse.{work_after}
use Rattle.molang.specs.Rules.{rules_of, rules_for, rule_answered, ruled_tree_after, ruled_messages_after, ruled_work_after, rules_after}
use Rattle.molang.specs.Left.{Left, left}
use Rattle.molang.proofs.Accepted.{rule-accepted}

-- A call that either entry reads is read without a rule buffer.
pub either-accepted : (rules : Option (List ℕ)) (c : Call) → (left rules c).turned ≡ none → refusal c ≡ none
unfolding left
either-accepted none c e = e
either-accepted (some rules) c e = rule-accepted (record { call = c; rules = rules }) e

-- What a reading entry comes to, by where it turns a call back.
unfoldable pub comes_to : Option Refusal → Call → List ℕ → Left
comes_to o c rules =
    record {
      turned = o;
      told = told o (reading c);
      tree = tree_in o (reading c) c.tree;
      messages = messages_in o (reading c) c.messages;
      work = work_in o c.work;
      rules = rules;
    }

-- The rule buffer after a call that is turned back so, or not.
unfoldable pub rules_left : Option (List ℕ) → Option Refusal → Call → List ℕ
rules_left none o c = []
rules_left (some buffer) o c =
    rules_for o (reading c) (rules_of (tokens_of c.list) (in_halves c.used_low c.used_high) c.version) buffer

pub left-comes : (rules : Option (List ℕ)) (c : Call)
    → left rules c ≡ comes_to (left rules c).turned c (rules_left rules (left rules c).turned c)
unfolding left comes_to rules_left answered tree_after messages_after work_after rule_answered ruled_tree_after ruled_messages_after ruled_work_after
    rules_after
left-comes none c = refl
left-comes (some rules) c = refl
