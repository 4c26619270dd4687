-- Opens every definition, so that worked cases compute. Assumes nothing.
use Rattle.paper.specs.Bytes.{word, values_read}
use Rattle.paper.specs.Table.{version, nodes, edges, kind, owner, lower, upper, edge_kind, source, target, guarded, into, out, inputs, outputs, frame_fine, node_fine, edge_fine, degrees_fine, one_kind, join_fine, action_fine, chain, chain_fine, shape_fine, table_fine}
use Rattle.paper.specs.Marking.{written, counted, layout, encode, field_read, pin_fine, cleared, marking_fine, marking_read, marking, ended_of}
use Rattle.paper.specs.Offers.{parts, last_edge, value, paths, same, elem, makers, origins, guards_fine, bounds_version, bounds_count, bound_edge, low, high, bound_fine, in_bounds, bounds_fine, goes_over, object_offers, control_offers, one_round, of_one_stock, of_one_decision, of_one_join, clash, compete, firsts, ways, handed, offers_on, offers, is_end, belongs, sorted_paths, end_order, ends, sizes_fine}
use Rattle.paper.specs.Choices.{board_of, board, taken, taken_ends, arrivals, taken_makers, rule1, passed_whole, rule2, action_agrees, agrees, rule3, spent, spend, gain, close, next, acceptable}
use Rattle.paper.specs.Operations.{check, value_lists, given, room_in, start_of, start, end_bytes, sheet_bytes, sheet, wanted, Pick, own_of, levels, left, Why, step_of, step, idled, finish_of, finish}
use Rattle.paper.specs.Program.{digits, end_line, board_text}
use Rattle.paper.proofs.Search.{look}
use Rattle.paper.proofs.Picks.{searched}
use Rattle.paper.proofs.Levels.{climb, first_empty}
use Rattle.paper.proofs.Reasons.{reasoned}

unfoldable pub computed : Unit {0}
unfolding word values_read version nodes edges kind owner lower upper edge_kind source target guarded into out inputs outputs frame_fine node_fine edge_fine degrees_fine one_kind join_fine action_fine chain chain_fine shape_fine table_fine written counted layout encode field_read pin_fine cleared marking_fine marking_read marking ended_of parts last_edge value paths same elem makers origins guards_fine bounds_version bounds_count bound_edge low high bound_fine in_bounds bounds_fine goes_over object_offers control_offers one_round of_one_stock of_one_decision of_one_join clash compete firsts ways handed offers_on offers is_end belongs sorted_paths end_order ends sizes_fine board_of board taken taken_ends arrivals taken_makers rule1 passed_whole rule2 action_agrees agrees rule3 spent spend gain close next acceptable check value_lists given room_in start_of start end_bytes sheet_bytes sheet wanted Pick own_of levels left Why step_of step idled finish_of finish digits end_line board_text look searched climb first_empty reasoned
computed = tt
