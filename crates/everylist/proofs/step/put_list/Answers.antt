-- `everylist::step::put_list` meets its contract: the text of the list at the position, or that there is none. Assumes nothing.
use Prim.Native.Nat.{◌/◌}
use mathlib.Core.{Path.{refl, ◌∙◌}}
use native.Mathlib.Omega.{arith}
use mir.{Syntax.{w16}, Val.{to_z, of_z}, Facts.{to_z-of_z}}
use Rattle.shortlists.specs.Answers.{list_told, words_at}
use Rattle.everylist.proofs.KeptLaws.{unturned, letters-same, version-bits}
use Rattle.everylist.proofs.{StepLaws.{stepped, none-there, few-tokens, text-there}}
use borrow.Author.Rules.{rules}
use Rattle.everylist.proofs.step.put_list.Goals as goal

pub slice_bounds-list_at-count : goal.slice_bounds-list_at-count
slice_bounds-list_at-count c =
    omega (arith, (unturned c.args.kept.now.bytes c.args.kept.now.words c.args.kept.now.fine c.requires.1).enough, c.count-n.ensures)

pub slice_bounds-list_at-start : goal.slice_bounds-list_at-start
slice_bounds-list_at-start c =
    omega (arith, (unturned c.args.kept.now.bytes c.args.kept.now.words c.args.kept.now.fine c.requires.1).enough, c.count-n.ensures)

pub returns-in-Err : goal.returns-in-Err
returns-in-Err c =
    stepped c.args.out.now c.args.out.now _
    (none-there c.args.kept.now.bytes c.args.kept.now.words c.args.kept.now.fine (unturned c.args.kept.now.bytes c.args.kept.now.words c.args.kept.now.fine c.requires.1) c.args.position _
    (c.in-Err.ensures.listed_value ∙ (λ i. list_told (letters-same _ (c.args.kept.now.bytes / 4) c.args.kept.now.words c.count-n.ensures (search rules) i) (c.from.ensures i) c.args.position))) refl

pub version_of-version-requires : goal.version_of-version-requires
version_of-version-requires c =
    let a = c.args in
    let version = version-bits (a.kept.now.bytes / 4) a.kept.now.words (unturned c.args.kept.now.bytes c.args.kept.now.words c.args.kept.now.fine c.requires.1).numbers (omega (arith, (unturned c.args.kept.now.bytes c.args.kept.now.words c.args.kept.now.fine c.requires.1).enough)) (omega arith) in
    let most = (unturned c.args.kept.now.bytes c.args.kept.now.words c.args.kept.now.fine c.requires.1).short in omega arith

pub put_text-end-requires : goal.put_text-end-requires
put_text-end-requires c =
    let start = c in (
      search rules,
      search rules,
      few-tokens start.args.kept.now.bytes start.args.kept.now.words c.args.kept.now.fine (unturned c.args.kept.now.bytes c.args.kept.now.words c.args.kept.now.fine c.requires.1) start.args.position c.in-Ok.short.tokens
          (c.in-Ok.ensures.listed_value ∙ (λ i. list_told (letters-same _ (c.args.kept.now.bytes / 4) c.args.kept.now.words c.count-n.ensures (search rules) i) (c.from.ensures i) c.args.position)),
    )

pub returns-in-Ok : goal.returns-in-Ok
returns-in-Ok c =
    let start = c in
    let version = c.version_of-version in
    let a = start.args in
    stepped a.out.now c.put_text-end.new.out _
    (text-there a.kept.now.bytes a.kept.now.words c.args.kept.now.fine (unturned c.args.kept.now.bytes c.args.kept.now.words c.args.kept.now.fine c.requires.1) a.position c.in-Ok.short.tokens c.in-Ok.short.words
    (to_z w16 (of_z w16 version.result)) (c.in-Ok.ensures.listed_value ∙ (λ i. list_told (letters-same _ (c.args.kept.now.bytes / 4) c.args.kept.now.words c.count-n.ensures (search rules) i) (c.from.ensures i) c.args.position)) (c.in-Ok.ensures.words_value ∙ (λ i. words_at (letters-same _ (c.args.kept.now.bytes / 4) c.args.kept.now.words c.count-n.ensures (search rules) i) (c.from.ensures i) c.args.position))
    (to_z-of_z {w = w16} {z = version.result} (record { sfits = version.type_inv }) ∙ version.ensures)) (c.put_text-end.ensures.upper_bound, c.put_text-end.ensures.wrote)
