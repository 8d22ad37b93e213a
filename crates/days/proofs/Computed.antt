-- The definitions that a call computes through, opened all at once: `unfolding computed` opens what its own line names.
-- Assumes nothing.
use mathlib.Core.List.{flatten}
use Rattle.example.specs.Example.{example, example_table}
use Rattle.format.specs.Bytes.{value, bytes}
use Rattle.format.specs.Layout.{parsed, printed, record_of, bytes_of, record_at}
use Rattle.lists.specs.Tables.{tabulate, each, store, count_if}
use Rattle.model.specs.Undo.{is_source, reads_from}
use Rattle.journal.specs.Journal.{count, items, op_of, records, history, whole}
use Rattle.journal.specs.Refusals.{short, truncated, bad_items, bad_head, wrong_table, malformed, wrong_next, terminated, conflicting, blind, mismatched, unsettled, still_active, unknown, absent, wrong_status, too_short, no_room, counts_by_kind, wrong_counts}
use Rattle.journal.proofs.Opened.{orders}
use Rattle.journal.specs.Copy.{encoded, copied_by, copy_records, journal_of, copy, records_surviving, copy_surviving}
use Rattle.journal.specs.Results.{table_surviving, totals, status_vector, result}
use Rattle.journal.specs.Calls.{start, check, walk, chain_of, chain, link, extended, applied_table, raised, append, count_records, status_of, statuses, opening_at, table_left, undo_totals, undo}

unfoldable pub computed : Unit {0}
unfolding flatten example example_table value bytes parsed printed record_of bytes_of record_at tabulate each store count_if count items op_of records history whole short truncated bad_items bad_head wrong_table malformed wrong_next terminated conflicting blind mismatched unsettled still_active unknown absent wrong_status too_short no_room counts_by_kind wrong_counts orders encoded copied_by records_surviving copy_surviving copy_records journal_of copy start check walk chain_of chain link extended applied_table raised append count_records status_of status_vector statuses opening_at table_surviving table_left totals undo_totals result undo is_source reads_from
computed = tt
