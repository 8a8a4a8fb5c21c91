-- The call that the entry with a rule buffer is given, as the definition takes it, and what the entry promises of it.
use Rattle.std.specs.Prelude.{ℕ, ◌≡◌, List, ℤ, Result}
use Rattle.molang.specs.Rules.{RuleCall, rule_answered, ruled_tree_after, ruled_messages_after, ruled_work_after, rules_after}
use Rattle.words.specs.declared.refusals.Refusal as code
use Rattle.parse.specs.declared.Answer.{Answer}
use Rattle.parse.specs.Answers.{told_of, call as parse_call}

-- A call of the entry, in the order of its parameters.
abbrev pub call : List ℕ → List ℕ → List ℕ → List ℕ → List ℕ → ℕ → ℤ → ℕ → ℕ → ℕ → RuleCall
call list tree messages work bytes source_length version used_low used_high limit =
    record { call = parse_call list tree messages work source_length version used_low used_high limit; rules = bytes }

-- THE ENTRY'S PROMISE: what the caller is told by the answer r, and what each lent buffer holds after the call.
pub record HasRuled (c : RuleCall) (r : Result Answer code.Refusal) (tree' messages' work' rules' : List ℕ) : Type 0 where
  pub told : told_of r ≡ rule_answered c
  pub tree : tree' ≡ ruled_tree_after c
  pub messages : messages' ≡ ruled_messages_after c
  pub work : work' ≡ ruled_work_after c
  pub rules : rules' ≡ rules_after c
