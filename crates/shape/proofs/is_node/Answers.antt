-- `shape::is_node` meets its contract: word by word, by the field of each. Assumes nothing.
use Prim.Native.Nat.{ℕ, ◌+◌}
use mathlib.Core.{Path.{sym, ap, ◌∙◌}, Bool.{false≢true}}
use lib.ListN.{get_or}
use Rattle.molang.specs.Words.{upper_field, lower_field, word_fault, variant_after}
use Rattle.words.specs.Fields.{variant_of}
use Rattle.shape.specs.Answers.{is_legal}
use Rattle.shape.proofs.is_node.Goals as goal
use Rattle.shape.proofs.is_node.Goals.{then-is_legal, else-is_legal, then-is_legal-2, else-is_legal-2, then-is_legal-3, else-is_legal-3}
use Rattle.shape.proofs.is_node.Goals.{then-is_legal-4, else-is_legal-4, then-is_legal-5, else-is_legal-5}

pub returns-then-is_legal-6 : goal.returns-then-is_legal-6
unfolding variant_after variant_of
returns-then-is_legal-6 c =
    let word : ℕ → ℕ = λ field. get_or c.args.tree.now (c.args.at + field) 0 in
    let variant = sym c.variant-variant.ensures in
    λ last.
    elim c.if-is_legal-5.branch [
      | else-is_legal-5 w ↦ absurd (false≢true (sym w.if-is_legal-5.false ∙ (sym w.value-is ∙ c.if-is_legal-6.true)))
      | then-is_legal-5 w5 ↦
          elim c.if-is_legal-4.branch [
            | else-is_legal-4 w ↦ absurd (false≢true (sym w.if-is_legal-4.false ∙ (sym w.value-is ∙ w5.if-is_legal-5.true)))
            | then-is_legal-4 w4 ↦
                elim c.if-is_legal-3.branch [
                  | else-is_legal-3 w ↦ absurd (false≢true (sym w.if-is_legal-3.false ∙ (sym w.value-is ∙ w4.if-is_legal-4.true)))
                  | then-is_legal-3 w3 ↦
                      elim c.if-is_legal-2.branch [
                        | else-is_legal-2 w ↦ absurd (false≢true (sym w.if-is_legal-2.false ∙ (sym w.value-is ∙ w3.if-is_legal-3.true)))
                        | then-is_legal-2 w2 ↦
                            elim c.if-is_legal.branch [
                              | else-is_legal w ↦ absurd (false≢true (sym w.if-is_legal.false ∙ (sym w.value-is ∙ w2.if-is_legal-2.true)))
                              | then-is_legal w1 ↦
                                  record {
                                    operator = sym c.is_legal.ensures ∙ w1.if-is_legal.true;
                                    start = sym w1.is_legal-then-is_legal.ensures ∙ (sym w1.value-is ∙ w2.if-is_legal-2.true);
                                    end = sym w2.is_legal-then-is_legal-2.ensures ∙ (sym w2.value-is ∙ w3.if-is_legal-3.true);
                                    upper = ap (λ (v : ℕ). is_legal (word_fault upper_field v (word 3))) variant ∙ (sym w3.is_legal-then-is_legal-3.ensures ∙ (sym w3.value-is ∙ w4.if-is_legal-4.true));
                                    lower = ap (λ (v : ℕ). is_legal (word_fault lower_field v (word 4))) variant ∙ (sym w4.is_legal-then-is_legal-4.ensures ∙ (sym w4.value-is ∙ w5.if-is_legal-5.true));
                                    count = sym w5.is_legal-then-is_legal-5.ensures ∙ (sym w5.value-is ∙ c.if-is_legal-6.true);
                                    close = sym c.is_legal-then-is_legal-6.ensures ∙ last;
                                  }
                            ]
                      ]
                ]
          ]
    ]
