-- The copy that keeps a set k of committed transactions, with the table it leaves, of a journal and table that pass: its history, that it
-- passes, and its opening amounts.
-- Assumes nothing.
use mathlib.Core.Path.{◌≡◌, sym, ◌∙◌, ap}
use mathlib.Core.Bool.{Bool, true, false}
use mathlib.Core.List.{List}
use Prim.Native.Nat.{ℕ, zero, suc, ◌+◌, ◌*◌, ◌<◌, ◌≤◌}
use native.Mathlib.Omega.{arith}
use lib.Dec.{eqb, leb}
use lib.IntN.{pos}
use lib.ListN.{length}
use borrow.Author.Tests.{eqb-true, eq-eqb, le-leb, le-ltb}
use Rattle.lists.specs.Search.{any}
use Rattle.lists.specs.Tables.{tabulate}
use Rattle.lists.proofs.BoolLaws.{by_cases, clash}
use Rattle.lists.proofs.SearchLaws.{any_none}
use Rattle.lists.proofs.TablesLaws.{length-tabulate, get_or-tabulate, tabulate-ext}
use Rattle.format.specs.declared.Record.{Record}
use Rattle.format.specs.Bytes.{Bytes}
use Rattle.format.specs.Layout.{record_at, Fitting}
use Rattle.format.proofs.LayoutLaws.{record_at-fitting}
use Rattle.model.specs.History.{Amount, same_amount, tx_of, write_to, of_tx, end_of, committed, ended, initial, standing, next_in, later_of}
use Rattle.model.specs.Undo.{only, renumber, replayed}
use Rattle.model.proofs.Ends.{end-of, committed-ended}
use Rattle.model.proofs.Removal.{any-only}
use Rattle.model.proofs.Legal.{stand, Legal, NoBlindWrites}
use Rattle.model.proofs.Strict.{legal-ends_last}
use Rattle.model.proofs.Repair.{no_blind-only, opening-found}
use Rattle.model.proofs.Renumber.{legal-renumber, no_blind-renumber, current-renumber, renumber-numbered, length-renumber, any-renumber, of_tx-untagged, ended-renumber}
use Rattle.model.proofs.Extension.{first-tag}
use Rattle.model.proofs.Amounts.{same_refl}
use Rattle.model.proofs.Opening.{legal-passing, passing-legal, standing-legal, left-stands}
use Rattle.journal.specs.Inputs.{Inputs, handed_on}
use Rattle.journal.specs.Journal.{count, items, tx_in, records, whole, amount_at}
use Rattle.journal.specs.Refusals.{short, truncated, bad_head, wrong_table, malformed, unsettled}
use Rattle.journal.specs.Copy.{linked_to, unchanged, records_surviving, copy_surviving}
use Rattle.journal.specs.Results.{opening_at, opening_table, table_surviving}
use Rattle.journal.proofs.Records.{ops_of, Each, each_map, each_both, records-each, ops_of-records, ops_of-copied, copied-linked, copied-each, length-ops_of}
use Rattle.journal.proofs.ResultsLaws.{records_surviving-few, copy_surviving-length}
use Rattle.journal.proofs.Encoded.{journal_of-bytes, head-journal_of, count-journal_of, items-journal_of, journal_of-each, records-journal_of, whole-journal_of}
use Rattle.journal.proofs.Checked.{Sound, Checks}
use Rattle.journal.proofs.Passing.{passing-whole, no_blind-whole, sound-from, head-facts, HeadFacts}
use Rattle.journal.proofs.Unrefused.{table-length, next-chained}

-- a record fits, its next aside
abbrev Body : Record → Type 0
Body r = (n : ℕ) → n < 4294967296 → Fitting (linked_to n r)

body : {r : Record} → Fitting r → Body r
body f n h = record { kind = f.kind; reserved = f.reserved; transaction = f.transaction; next = h; item = f.item; before = f.before; after = f.after }

-- a set of committed transactions whose records alone are legal from the opening amounts
pub record Keeps (d : Inputs) (k : ℕ → Bool) : Type 0 where
  pub commits : (s : ℕ) → k s ≡ true → committed (whole d.journal) s ≡ true
  pub legal : Legal (opening_at d) (only k (whole d.journal))

module _ (d : Inputs) (bytes : Bytes d.journal) (ok : Checks d) where
  abbrev b : List ℕ
  b = d.journal

  abbrev t : List Amount
  t = d.table

  facts : HeadFacts b
  facts = head-facts b ok.sound.head

  -- the journal is legal from its opening amounts
  pub legal-day : Legal (opening_at d) (whole b)
  unfolding opening_at
  legal-day = legal-passing (amount_at t) (whole b) (passing-whole b ok.sound)

  module _ (k : ℕ → Bool) (keeps : Keeps d k) where
    -- ---- the copy's records

    surviving-ops : ops_of (records_surviving unchanged k b) ≡ renumber (only k (whole b))
    unfolding records_surviving whole
    surviving-ops =
        ops_of-copied k (renumber (only k (whole b))) (records b (count b)) ∙ ap (λ p. renumber (only k p)) (ops_of-records b (count b))

    linked : Each (λ i r. r.next.0 ≡ next_in (renumber (only k (whole b))) i (tx_in r)) (records_surviving unchanged k b)
    unfolding records_surviving
    linked = copied-linked k (renumber (only k (whole b))) (records b (count b))

    next-few : (i s : ℕ) → next_in (renumber (only k (whole b))) i s < 4294967296
    next-few i s =
        let l : length (only k (whole b)) ≡ length (records_surviving unchanged k b) =
        sym (length-renumber (only k (whole b))) ∙ ap length (sym surviving-ops) ∙ length-ops_of (records_surviving unchanged k b) in
        omega (arith, first-tag (later_of i s) (renumber (only k (whole b))) (renumber-numbered (only k (whole b))), length-renumber (only k (whole b)), records_surviving-few unchanged k b, facts.few)

    bodies : Each (λ i r. Body r) (records_surviving unchanged k b)
    unfolding records_surviving
    bodies =
        copied-each k (renumber (only k (whole b))) Body (λ m r p. p)
        (records-each (λ i r. Body r) b (count b) (λ i l m. body (record_at-fitting bytes i)))

    surviving-fitting : Each (λ i r. Fitting r) (records_surviving unchanged k b)
    surviving-fitting =
        each_map (λ i r (p : Body r × (r.next.0 ≡ next_in (renumber (only k (whole b))) i (tx_in r))).
        p.0 r.next.0 (rw p.1 (next-few i (tx_in r)))) (each_both bodies linked)

    formed : Each (λ i r. malformed (items b) r ≡ false) (records_surviving unchanged k b)
    unfolding records_surviving malformed
    formed =
        copied-each k (renumber (only k (whole b))) (λ r. malformed (items b) r ≡ false) (λ m r p. p)
        (records-each (λ i r. malformed (items b) r ≡ false) b (count b) at)
      where
        at : (i : ℕ) → 1 ≤ i → i ≤ count b → malformed (items b) (record_at b i) ≡ false
        at zero l m = absurd (omega arith)
        at (suc i) l m = (ok.sound.right i (omega arith)).formed

    -- ---- the copy's head and history

    few : length (records_surviving unchanged k b) < 4294967296
    few = omega (arith, records_surviving-few unchanged k b, facts.few)

    some-items : items b < 4294967296
    some-items = omega (arith, facts.most)

    pub surviving-count : count (copy_surviving unchanged k b) ≡ length (records_surviving unchanged k b)
    unfolding copy_surviving
    surviving-count = count-journal_of (items b) (records_surviving unchanged k b) few some-items

    pub surviving-items : items (copy_surviving unchanged k b) ≡ items b
    unfolding copy_surviving
    surviving-items = items-journal_of (items b) (records_surviving unchanged k b) few some-items

    pub surviving-bytes : Bytes (copy_surviving unchanged k b)
    unfolding copy_surviving
    surviving-bytes = journal_of-bytes (items b) (records_surviving unchanged k b)

    pub surviving-records : records (copy_surviving unchanged k b) (count (copy_surviving unchanged k b)) ≡ records_surviving unchanged k b
    unfolding copy_surviving
    surviving-records = ap (records (copy_surviving unchanged k b)) surviving-count ∙ records-journal_of (items b) (records_surviving unchanged k b) few some-items surviving-fitting

    -- the copy's history is the kept records, renumbered
    pub surviving-whole : whole (copy_surviving unchanged k b) ≡ renumber (only k (whole b))
    unfolding copy_surviving
    surviving-whole = whole-journal_of (items b) (records_surviving unchanged k b) few some-items surviving-fitting ∙ surviving-ops

    surviving-legal : Legal (opening_at d) (whole (copy_surviving unchanged k b))
    surviving-legal = rw surviving-whole (legal-renumber (opening_at d) (only k (whole b)) keeps.legal)

    surviving-no_blind : NoBlindWrites (whole (copy_surviving unchanged k b))
    surviving-no_blind = rw surviving-whole (no_blind-renumber (only k (whole b)) (no_blind-only k (whole b) (no_blind-whole b ok.sound)))

    -- ---- the table

    pub table_surviving-length : length (table_surviving k d) ≡ length t
    unfolding table_surviving
    table_surviving-length = length-tabulate _ 0 (length t)

    -- item by item it is what the copy leaves of the opening amount
    pub table_surviving-amount : (x : ℕ) → x < length t → amount_at (table_surviving k d) x ≡ stand (opening_at d) (whole (copy_surviving unchanged k b)) x
    unfolding table_surviving
    table_surviving-amount x h =
        get_or-tabulate (λ x. replayed k (opening_at d x) (whole b) x) 0 (length t) x (pos 0) h
        ∙ ap (λ y. replayed k (opening_at d y) (whole b) y) (omega arith)
        ∙ left-stands k (opening_at d) (whole b) (legal-ends_last (opening_at d) (whole b) legal-day) keeps.commits x
        ∙ sym (ap (λ p. stand (opening_at d) p x) surviving-whole ∙ current-renumber (opening_at d x) (only k (whole b)) x)

    -- ---- the copy passes

    head-right : bad_head (copy_surviving unchanged k b) ≡ false
    unfolding bad_head copy_surviving
    head-right =
        let e1 : leb (length (records_surviving unchanged k b)) 3200 ≡ true = le-leb (length (records_surviving unchanged k b)) 3200 (omega (arith, records_surviving-few unchanged k b, facts.few)) in
        let e2 : leb 1 (items b) ≡ true = le-leb _ _ facts.some in
        let e3 : leb (items b) 1024 ≡ true = le-leb _ _ facts.most in
        rw (head-journal_of (items b) (records_surviving unchanged k b) few some-items) (rw (e1, e2, e3))

    long : short (copy_surviving unchanged k b) ≡ false
    unfolding short
    long = le-ltb (length (copy_surviving unchanged k b)) 20 (omega (arith, copy_surviving-length unchanged k b))

    full : truncated (copy_surviving unchanged k b) ≡ false
    unfolding truncated
    full = le-ltb (length (copy_surviving unchanged k b)) (20 * (count (copy_surviving unchanged k b) + 1)) (omega (arith, copy_surviving-length unchanged k b, surviving-count))

    each-record : (P : ℕ → Record → Type 0) → Each P (records_surviving unchanged k b) → (i : ℕ) → i < count (copy_surviving unchanged k b) → P (suc i) (record_at (copy_surviving unchanged k b) (suc i))
    unfolding copy_surviving
    each-record P e i h = journal_of-each (items b) (records_surviving unchanged k b) few some-items P e surviving-fitting (suc i) (omega arith) (omega (arith, surviving-count))

    surviving-sound : Sound (copy_surviving unchanged k b)
    surviving-sound =
        sound-from (copy_surviving unchanged k b) long head-right full
        (λ i h. rw surviving-items (each-record (λ i r. malformed (items b) r ≡ false) formed i h))
        (λ i h. next-chained (copy_surviving unchanged k b) (suc i)
        (rw surviving-whole (each-record (λ i r. r.next.0 ≡ next_in (renumber (only k (whole b))) i (tx_in r)) linked i h)))
        (passing-legal (opening_at d) (whole (copy_surviving unchanged k b)) surviving-legal) surviving-no_blind

    settled : (x : ℕ) → x < items (copy_surviving unchanged k b) → unsettled (copy_surviving unchanged k b) (table_surviving k d) x ≡ false
    unfolding unsettled
    settled x h =
        let l : x < length t = omega (arith, surviving-items, table-length b t ok.table) in
        by_cases (any (write_to x) (whole (copy_surviving unchanged k b)))
        (λ w. let e : same_amount (standing (amount_at (table_surviving k d) x) (whole (copy_surviving unchanged k b)) x) (amount_at (table_surviving k d) x) ≡ true =
        ap (λ a. same_amount a (amount_at (table_surviving k d) x)) (standing-legal (opening_at d) _ (whole (copy_surviving unchanged k b)) x w ∙ sym (table_surviving-amount x l))
        ∙ same_refl (amount_at (table_surviving k d) x) in rw (w, e))
        (λ n. rw n)

    right-table : wrong_table (copy_surviving unchanged k b) (table_surviving k d) ≡ false
    unfolding wrong_table
    right-table =
        let e : eqb (length (table_surviving k d)) (items (copy_surviving unchanged k b)) ≡ true = eq-eqb _ _ (table_surviving-length ∙ table-length b t ok.table ∙ sym surviving-items) in
        rw e

    -- check refuses nothing of the copy with its table
    pub surviving-checks : Checks (handed_on (copy_surviving unchanged k b) (table_surviving k d) d)
    surviving-checks = record { sound = surviving-sound; table = right-table; settled = settled }

    -- the opening amounts are the same
    pub surviving-opening : (x : ℕ) → x < length t → opening_at (handed_on (copy_surviving unchanged k b) (table_surviving k d) d) x ≡ opening_at d x
    unfolding opening_at
    surviving-opening x h =
        ap (λ v. initial v (whole (copy_surviving unchanged k b)) x) (table_surviving-amount x h) ∙ opening-found (opening_at d) x (whole (copy_surviving unchanged k b)) surviving-legal

    pub surviving-opening_table : opening_table (handed_on (copy_surviving unchanged k b) (table_surviving k d) d) ≡ opening_table d
    unfolding opening_table
    surviving-opening_table =
        ap (λ n. tabulate (opening_at (handed_on (copy_surviving unchanged k b) (table_surviving k d) d)) 0 n) table_surviving-length
        ∙ tabulate-ext _ _ 0 0 (length t) (λ x h. let e : 0 + x ≡ x = omega arith in rw e (surviving-opening x h))

    -- every transaction of the copy has an end there
    pub surviving-ended : (s : ℕ) → any (of_tx s) (whole (copy_surviving unchanged k b)) ≡ true → ended (whole (copy_surviving unchanged k b)) s ≡ true
    surviving-ended s h =
        by_cases (k s)
        (λ e. rw (surviving-whole, ended-renumber) (any-only k (end_of s) s (end-of s) e (whole b) ∙ committed-ended s (whole b) (keeps.commits s e)))
        (λ e. clash (rw (surviving-whole, any-renumber (of_tx s) (of_tx-untagged s)) at h)
        (any_none (of_tx s) (λ r. k (tx_of r)) (λ r q.
        by_cases (eqb s (tx_of r)) (λ z. clash q (ap k (sym (eqb-true s (tx_of r) z)) ∙ e)) (λ z. z)) (whole b)))
