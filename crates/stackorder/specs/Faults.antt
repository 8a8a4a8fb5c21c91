-- Answer 24's walk, in the code's terms.
use Rattle.std.specs.Prelude.{ℕ, ◌+◌, ◌≤◌, Bool, ◌&&◌, List, leb}
use Rattle.std.proofs.Math.Option.{Option}
use Rattle.molang.specs.Words.{Field, operator_field, start_field, end_field, upper_field, lower_field, count_field, close_field}
use Rattle.molang.specs.WriteEntry.{most_nodes}
use Rattle.molang.specs.StackOrder.{Stack, stack_after, trees_asked, least_nodes, is_one_stack, stack_fault}
use Rattle.stackorder.specs.declared.fault.StackOrder.{StackOrder}

-- So many trees done and so many nodes begun.
abbrev pub stack : ℕ → ℕ → Stack
stack done begun = record { done = done; begun = begun }

-- The definition's state, and the code's.
abbrev pub stack_in : StackOrder → Stack
stack_in s = stack s.done s.begun

abbrev pub order_of : Stack → StackOrder
order_of s = record { done = s.done; begun = s.begun }

-- No tree is done, and no node has begun.
abbrev pub order_start : StackOrder
order_start = order_of (stack 0 0)

-- After a word.
abbrev pub order_after : Field → ℕ → StackOrder → StackOrder
order_after field w s = order_of (stack_after field w (stack_in s))

-- As many trees are done as the word asks for, and a tree of the words fits.
abbrev pub order_fits : Field → ℕ → StackOrder → Bool
order_fits field w s = leb (trees_asked field w) s.done && leb (least_nodes field (stack_after field w (stack_in s))) most_nodes

-- The words are a whole tree.
abbrev pub order_whole : Field → StackOrder → Bool
order_whole field s = is_one_stack field (stack_in s)

-- The place of the first fault.
abbrev pub order_faults : ℕ → Field → ℕ → StackOrder → List ℕ → Option ℕ
order_faults i field v s ws = stack_fault i field v (stack_in s) ws

-- The nodes that have begun and whose count is still to come: one between an operator and its count.
abbrev pub uncounted : Field → ℕ
uncounted operator_field = 0
uncounted start_field = 1
uncounted end_field = 1
uncounted upper_field = 1
uncounted lower_field = 1
uncounted count_field = 1
uncounted close_field = 0

-- No more trees are done than nodes have begun, apart from the one whose count is still to come, and no more have begun than fit.
abbrev pub OrderHolds : Field → StackOrder → Type 0
OrderHolds field s = (s.done + uncounted field ≤ s.begun) × (s.begun ≤ most_nodes)
