-- `unfolding computed` opens every definition of `specs/`, for results that the checker computes.
use Rattle.molang.specs.Operator.{any, is_one_of, between, is_math_call, is_host, is_operator, is_bracket, is_query_or_loop, has_members, closing_of, is_closer, before_minus}
use Rattle.molang.specs.Forest.{renamed, bare, closed_by, unclosed, leaves, turned_onto, in_order, count, size}
use Rattle.molang.specs.Message.{host_value, closer, record8, about, message_record}
use Rattle.molang.specs.Level.{walk, through, nothing}
use Rattle.molang.specs.Sections.{with_member, members, placed, position, outermost, closing, bracket, closed, sections}
use Rattle.molang.specs.Calls.{calls, call_leaf, call_step, call_resume, call_finish, call_level, flushed, is_index, starts_with_index, empty_index, next_index, index, array_step, array_resume, array_finish, array_level}
use Rattle.molang.specs.Statements.{split_of, is_entered, gather, end_statement, enter_split, statement_step, statement_resume, statement_finish, statement_level}
use Rattle.molang.specs.Unary.{minus_after, not_before, unary_leaf, turned, unary_node, unary, unary_pass, return_step, return_resume, return_finish, return_level}
use Rattle.molang.specs.Binary.{first_leaf, unfolded, joined, operator_after, binary_step, binary_resume, binary_finish, binary_level}
use Rattle.molang.specs.Conditional.{is_token, starts_with, under, pair_else, scan, folded_from, dangling, undangled, conditional_step, conditional_finish, conditional_level}
use Rattle.molang.specs.Order.{effective, is_from, rules, comparisons, logic, conditionals, order, some_below, runs, last_of, ends_with_semicolon, apply}
use Rattle.molang.specs.Read.{lowest_start, highest_end, last_end, rooted, ends_reading, grouped, read, uses, set_number}
use Rattle.molang.specs.Free.{is_nil, free, clear, tokens_only, flat, is_semicolon, is_array_name, is_prefix, is_conditional, is_return, operators_of, works_on}
use Rattle.molang.specs.Grammar.{tokens_before, tokens, rank_in, rank, strength, fits, is_infix, several, is_statement, is_list, is_line, are_lines, are_rest, top_of, outline, ends_operand, begins_with, lacks, is_operand, all_are, is_pair, is_round, is_text, well_formed, signed, inside_of, listed, trees, ends_in, unpaired, same_at_all}
use Rattle.molang.specs.Weight.{weight, nodes_of}
use Rattle.molang.specs.Work.{before, from_right, work, begins, in_reading, takes, pass_of, pass, and_then, unwound}
use Rattle.molang.specs.Matching.{none_open, matched, succeeds, operators_in, with_closer, spelled, followed_by}
use Rattle.molang.specs.FirstFailure.{must, first_of}
use Rattle.molang.specs.Words.{word, kind_of, low_of, operator_bits, number_in, token_words, token_of, tokens_of, list_words, node_words_of, node_of, tree_words, field_kind, low_fault, word_fault, variant_after, next_in_token, words_refusal}
use Rattle.molang.specs.Nesting.{open_after, first_above, too_deep}
use Rattle.molang.specs.Parse.{in_halves, is_limit, length_rows, value_rows, refusal, reading, record_words, told, answered, in_front, tree_in, tree_after, messages_in, messages_after, work_in, work_after}
use Rattle.molang.specs.Rules.{number_beside, binary_rule, rule_of, with_rule_number, unruled, with_rule, ruled, ruling, rules_in, copied, rules_of, rule_refusal, rule_answered, ruled_tree_after, ruled_messages_after, ruled_work_after, rules_for, rules_after}
use Rattle.molang.specs.Left.{left}
use Rattle.molang.specs.Hosts.{is_host_word, with_this_word, hostless, tree_told, is_this_or_host, host_before, host_tokens, host_nodes}
use Rattle.molang.specs.Limits.{open_behind}
use Rattle.molang.specs.OperatorRules.{operator_rule, operator_rules}
use Rattle.molang.specs.Plain.{is_right_of_question, is_under_math_call, is_under_semicolon, seat_under, is_plain_leaf, is_plain_binary, is_call, expression_form, all_semicolons, semicolon_form, plain_form, seat_of, unplain, unplain_at}
use Rattle.molang.specs.Write.{spanning, opener_for, closer_for, closer_of, stands_alone, stands_left, stands_right, operand_tokens, written, written_statements, written_tree, is_single, taken_away, comparable_token, comparable_trees, comparable}
use Rattle.molang.specs.WriteEntry.{next_in_node, shape_after, continues, is_whole, tree_fault, first_trees, other_trees, trees_of, forest_refusal, write_refusal, written_tokens, write_told, write_answered, list_in, list_after}
use Rattle.molang.specs.Reread.{handed, writer_call, exact_call, second_call, stopped, second_told, after_writing, after_first, reread, words_written, words_of, lifted_by, lifted, by_way_of, bracketless}
use Rattle.molang.specs.Lift.{own_reading, eq_words, are_same, lift_refusal, unwritable, or_behind, or_written, after_old, lift_of, out_of, by_engines, last_engine}
use Rattle.molang.specs.StackOrder.{stack_words, stack_trees, stack_after, trees_asked, least_nodes, stack_continues, is_one_stack, stack_fault, output_refusal, export_refusal, import_refusal, reorder_told, output_in, export_answered, exported_after, import_answered, imported_after, handed_on}
use Rattle.molang.specs.Payloads.{without_payload, with_list, nodes_told, records_told, ruled_with_list, with_tree, tokens_told, reread_with_list, first_nodes, tokens_between, nodes_again_told, records_reread_told}
use Rattle.molang.specs.Lines.{items_of, marks_of, answers_of, lines_of, tokens_from, call_for, limited_call, list_call, close_in, node_words, tree_call, version_of, zeros_call, repeated_call, asked_of, record_of, records_of, written_of, refusal_of, wanted_of, write_wanted_of, parsed_by, wrote_by, work_left, compared_calls, compared, all_compared, givens, wanteds, works, wanted_works, line_count, Answered, WorkAnswered}

unfoldable pub computed : Unit {0}
unfolding any is_one_of between is_math_call is_host is_operator is_bracket is_query_or_loop has_members closing_of is_closer before_minus renamed bare closed_by unclosed leaves turned_onto in_order count size host_value closer record8 about message_record walk through nothing with_member members placed position outermost closing bracket closed sections calls call_leaf call_step call_resume call_finish call_level flushed is_index starts_with_index empty_index next_index index array_step array_resume array_finish array_level split_of is_entered gather end_statement enter_split statement_step statement_resume statement_finish statement_level minus_after not_before unary_leaf turned unary_node unary unary_pass return_step return_resume return_finish return_level first_leaf unfolded joined operator_after binary_step binary_resume binary_finish binary_level is_token starts_with under pair_else scan folded_from dangling undangled conditional_step conditional_finish conditional_level effective is_from rules comparisons logic conditionals order some_below runs last_of ends_with_semicolon apply lowest_start highest_end last_end rooted ends_reading grouped read uses set_number is_nil free clear tokens_only flat is_semicolon is_array_name is_prefix is_conditional is_return operators_of works_on tokens_before tokens rank_in rank strength fits is_infix several is_statement is_list is_line are_lines are_rest top_of outline ends_operand begins_with lacks is_operand all_are is_pair is_round is_text well_formed signed inside_of listed trees ends_in unpaired same_at_all weight nodes_of before from_right work begins in_reading takes pass_of pass and_then unwound none_open matched succeeds operators_in with_closer spelled followed_by must first_of word kind_of low_of operator_bits number_in token_words token_of tokens_of list_words node_words_of node_of tree_words field_kind low_fault word_fault variant_after next_in_token words_refusal open_after first_above too_deep in_halves is_limit length_rows value_rows refusal reading record_words told answered in_front tree_in tree_after messages_in messages_after work_in work_after number_beside binary_rule rule_of with_rule_number unruled with_rule ruled ruling rules_in copied rules_of rule_refusal rule_answered ruled_tree_after ruled_messages_after ruled_work_after rules_for rules_after left is_host_word with_this_word hostless tree_told is_this_or_host host_before host_tokens host_nodes open_behind operator_rule operator_rules is_right_of_question is_under_math_call is_under_semicolon seat_under is_plain_leaf is_plain_binary is_call expression_form all_semicolons semicolon_form plain_form seat_of unplain unplain_at spanning opener_for closer_for closer_of stands_alone stands_left stands_right operand_tokens written written_statements written_tree is_single taken_away comparable_token comparable_trees comparable next_in_node shape_after continues is_whole tree_fault first_trees other_trees trees_of forest_refusal write_refusal written_tokens write_told write_answered list_in list_after handed writer_call exact_call second_call stopped second_told after_writing after_first reread words_written words_of lifted_by lifted by_way_of bracketless own_reading eq_words are_same lift_refusal unwritable or_behind or_written after_old lift_of out_of by_engines last_engine stack_words stack_trees stack_after trees_asked least_nodes stack_continues is_one_stack stack_fault output_refusal export_refusal import_refusal reorder_told output_in export_answered exported_after import_answered imported_after handed_on without_payload with_list nodes_told records_told ruled_with_list with_tree tokens_told reread_with_list first_nodes tokens_between nodes_again_told records_reread_told items_of marks_of answers_of lines_of tokens_from call_for limited_call list_call close_in node_words tree_call version_of zeros_call repeated_call asked_of record_of records_of written_of refusal_of wanted_of write_wanted_of parsed_by wrote_by work_left compared_calls compared all_compared givens wanteds works wanted_works line_count Answered WorkAnswered
computed = tt
