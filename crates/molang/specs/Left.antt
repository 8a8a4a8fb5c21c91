-- What a call of a reading entry comes to, in one record: so that what is shown of a call is said once, of both entries (cards 5, 7 and 8).
use Rattle.std.specs.Prelude.{ℕ, List, []}
use Rattle.std.proofs.Math.Option.{Option, none, some}
use Rattle.molang.specs.Words.{Refusal}
use Rattle.molang.specs.Parse.{Call, Told, refusal, answered, tree_after, messages_after, work_after}
use Rattle.molang.specs.Rules.{RuleCall, rule_refusal, rule_answered, ruled_tree_after, ruled_messages_after, ruled_work_after, rules_after}

-- Where the call is turned back, what the caller is told, and what each lent buffer holds after it.
pub record Left : Type 0 where
  pub turned : Option Refusal
  pub told : Told
  pub tree : List ℕ
  pub messages : List ℕ
  pub work : List ℕ
  pub rules : List ℕ

-- THE CALL of the parse entry, or of the entry that is lent a rule buffer besides.
unfoldable pub left : Option (List ℕ) → Call → Left
left none c =
    record {
      turned = refusal c;
      told = answered c;
      tree = tree_after c;
      messages = messages_after c;
      work = work_after c;
      rules = [];
    }
left (some rules) c =
    let r : RuleCall = record { call = c; rules = rules } in
    record {
      turned = rule_refusal r;
      told = rule_answered r;
      tree = ruled_tree_after r;
      messages = ruled_messages_after r;
      work = ruled_work_after r;
      rules = rules_after r;
    }
