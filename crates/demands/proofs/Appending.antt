-- What posting builds, reading accepts; every accepted journal can be built by posting from its opening table.
-- Assumes nothing.
use mathlib.Core.Path.{◌≡◌, refl, sym, ◌∙◌, ap}
use mathlib.Core.Bool.{true, false, not}
use mathlib.Core.List.{List, [], ◌∷◌, ◌++◌, map}
use mathlib.Core.Option.{Option, none}
use Prim.Native.Nat.{ℕ, zero, suc, ◌+◌, ◌*◌, ◌<◌, ◌≤◌}
use native.Mathlib.Omega.{arith}
use lib.Dec.{eqb}
use lib.IntN.{pos}
use lib.ListN.{length}
use lib.Seq.{ext_get_or}
use mir.Syntax.{w32}
use mir.Val.{SFits}
use borrow.Author.Tests.{eq-eqb, le-ltb}
use Rattle.lists.specs.Tables.{tabulate}
use Rattle.lists.proofs.BoolLaws.{by_cases}
use Rattle.lists.proofs.TablesLaws.{tabulate-get_or}
use Rattle.format.specs.declared.Record.{Record}
use Rattle.format.specs.Bytes.{Bytes}
use Rattle.format.specs.Layout.{record_at, Fitting}
use Rattle.format.proofs.LayoutLaws.{record_at-fitting}
use Rattle.model.specs.History.{Op, Amount, current, initial}
use Rattle.model.proofs.Extension.{settled-current}
use Rattle.journal.specs.Inputs.{Inputs, handed_on}
use Rattle.journal.specs.Journal.{count, items, tx_in, op_of, records, history, whole, amount_at}
use Rattle.journal.specs.Refusals.{within, short, bad_items, RecordCounts, same_counts, counts_by_kind, malformed, wrong_counts}
use Rattle.journal.specs.Orders.{Refusal, decide, start_order, append_order}
use Rattle.journal.specs.Copy.{linked_to}
use Rattle.journal.specs.Calls.{start, append, new_record, extended, applied_table, raised, opening_at, opening_table}
use Rattle.journal.proofs.Records.{op_of-linked_to, history-zero, history-suc, records-zero, records-suc}
use Rattle.journal.proofs.Clear.{Clear, decide-clear, clear-decide}
use Rattle.journal.proofs.Checked.{Checks}
use Rattle.journal.proofs.Stored.{record-path}
use Rattle.journal.proofs.Unrefused.{room, room_for, head-head_fields, count-bound, table-length, formed, formed-cases, malformed-linked_to, chained-next, settled-amount, before-standing}
use Rattle.journal.proofs.Appending.{start-clear, amount-applied_table, length-opening_table, amount-opening_table, Enters, append-clear, clear-appended, length-extended, extended-bytes, items-extended, whole-extended, records-extended, counts_by_kind-extended, checks-extended, fits-applied_table, start-accepted, length-started, started-bytes, count-started, items-started, whole-started, checks-started, opening-extended}
use Rattle.journal.proofs.Relinked.{count-linked, whole-linked, same_bytes}
use Rattle.demands.specs.Days.{accepts, records_of, Amounts, none, amount}
use Rattle.demands.specs.Appending.{AppendCall, Given, AllGiven, none, given, AppendState, append_on, append_state_after, run_appends, appended_records, AllAccepted, started_state, restarted_state, Chained, AppendReady, Built, AppendedOnto, AppendedReads, append_calls_of, Rebuilding}
use Rattle.demands.proofs.DaysLaws.{answered-none, answered-some, checks-pass, pass-checks}
use Rattle.demands.proofs.Left.{legal-day, table-stands}

-- ---- a state in order

pub started-clear : (b : List ℕ) (m : ℕ) → accepts (start b m).answer ≡ true → Clear (start_order b m)
unfolding start
started-clear b m e = decide-clear (start_order b m) (answered-none _ _ e)

pub record Good (d : AppendState) : Type 0 where
  pub bytes : Bytes d.inputs.journal
  pub checks : Checks d.inputs
  pub counts : d.counts ≡ counts_by_kind (whole d.inputs.journal)

same_counts-refl : (c : RecordCounts) → same_counts c c ≡ true
same_counts-refl c = rw (eq-eqb c.reads c.reads refl, eq-eqb c.writes c.writes refl, eq-eqb c.commits c.commits refl, eq-eqb c.aborts c.aborts refl)

pub counts-right : (b : List ℕ) (c : RecordCounts) → c ≡ counts_by_kind (whole b) → wrong_counts b c ≡ false
unfolding wrong_counts
counts-right b c e = rw e (ap not (same_counts-refl (counts_by_kind (whole b))))

-- the record that a post would add
abbrev call_record : AppendState → AppendCall → Record
call_record d p = new_record d.inputs.table p.kind p.tx p.item p.after

-- a refused post leaves the state as it is
refused-next : (d : AppendState) (p : AppendCall) → accepts (append_on d p).answer ≡ false → append_state_after d p ≡ d
unfolding append
refused-next d p e =
    let o : Option Refusal = decide (append_order d.inputs d.counts (call_record d p)) in
    let j : (append_on d p).journal ≡ d.inputs.journal = answered-some o tt d.inputs.journal _ e in
    let t : (append_on d p).table ≡ d.inputs.table = answered-some o tt d.inputs.table _ e in
    let c : (append_on d p).counts ≡ d.counts = answered-some o tt d.counts _ e in
    λ i. record { inputs = handed_on (j i) (t i) d.inputs; counts = c i }

pub appended-clear : (d : AppendState) (p : AppendCall) → accepts (append_on d p).answer ≡ true → Clear (append_order d.inputs d.counts (call_record d p))
unfolding append
appended-clear d p e = decide-clear _ (answered-none _ _ e)

module _ (d : AppendState) (p : AppendCall) where
  enters-clear : Good d → Enters d.inputs.journal (call_record d p) → Clear (append_order d.inputs d.counts (call_record d p))
  enters-clear g e = append-clear d.inputs d.counts (call_record d p) g.checks (counts-right d.inputs.journal d.counts g.counts) e

  module _ (c : Clear (append_order d.inputs d.counts (call_record d p))) where
    clear-accepted : accepts (append_on d p).answer ≡ true
    unfolding append
    clear-accepted = rw (clear-decide c)

    next-journal : (append_state_after d p).inputs.journal ≡ extended d.inputs.journal (call_record d p)
    unfolding append
    next-journal = rw (clear-decide c)

    next-table : (append_state_after d p).inputs.table ≡ applied_table (whole d.inputs.journal) (op_of (suc (count d.inputs.journal)) (call_record d p)) d.inputs.table
    unfolding append
    next-table = rw (clear-decide c)

    pub next-counts : (append_state_after d p).counts ≡ raised p.kind d.counts
    unfolding append
    next-counts = rw (clear-decide c)

-- the before that post fills in is the table's
entry-before : (d : AppendState) (p : AppendCall) → p.kind ≡ 2 → (call_record d p).before ≡ amount_at d.inputs.table p.item
entry-before d p e = rw e

-- an accepted post
module _ (d : AppendState) (p : AppendCall) (g : Good d) (c : Clear (append_order d.inputs d.counts (call_record d p))) (f : Fitting (call_record d p)) where
  enters : Enters d.inputs.journal (call_record d p)
  enters = (clear-appended d.inputs d.counts (call_record d p) c).2

  small : count d.inputs.journal < 3200
  small = (room d.inputs.journal enters.room).0

  long : 20 * (count d.inputs.journal + 1) + 20 ≤ length d.inputs.journal
  long = (room d.inputs.journal enters.room).1

  whole-next : whole (append_state_after d p).inputs.journal ≡ op_of (suc (count d.inputs.journal)) (call_record d p) ∷ whole d.inputs.journal
  whole-next = ap whole (next-journal d p c) ∙ whole-extended d.inputs.journal (call_record d p) long small f

  pub good-next : Good (append_state_after d p)
  good-next =
      record {
        bytes = rw (next-journal d p c) (extended-bytes d.inputs.journal (call_record d p) long g.bytes);
        checks = rw (next-journal d p c, next-table d p c) (checks-extended d.inputs (call_record d p) g.checks enters f refl (entry-before d p));
        counts = next-counts d p c ∙ ap (raised p.kind) g.counts ∙ sym (ap counts_by_kind whole-next ∙ counts_by_kind-extended _ (call_record d p) (whole d.inputs.journal));
      }

  pub length-next : length (append_state_after d p).inputs.journal ≡ length d.inputs.journal
  length-next = ap length (next-journal d p c) ∙ length-extended d.inputs.journal (call_record d p) long

  pub items-next : items (append_state_after d p).inputs.journal ≡ items d.inputs.journal
  items-next = ap items (next-journal d p c) ∙ items-extended d.inputs.journal (call_record d p) long small f

  pub records-next : records_of (append_state_after d p).inputs.journal ≡ call_record d p ∷ records_of d.inputs.journal
  records-next = ap records_of (next-journal d p c) ∙ records-extended d.inputs.journal (call_record d p) long small f

  pub opening-next : opening_table (append_state_after d p).inputs ≡ opening_table d.inputs
  opening-next =
      rw (next-journal d p c, next-table d p c) (opening-extended d.inputs (call_record d p) g.checks enters f refl (entry-before d p))

  fits_next : ((x : ℕ) → SFits w32 (amount_at d.inputs.table x)) → (x : ℕ) → SFits w32 (amount_at (append_state_after d p).inputs.table x)
  fits_next h x = rw (next-table d p c) (fits-applied_table d.inputs.journal d.inputs.table (suc (count d.inputs.journal)) (call_record d p) g.bytes f h x)

-- ---- a run of posts

pub amounts-fit : {t : List Amount} → Amounts t → (x : ℕ) → SFits w32 (amount_at t x)
amounts-fit none x = record { sfits = omega arith }
amounts-fit (amount h k) zero = h
amounts-fit (amount h k) (suc x) = amounts-fit k x

-- of the table only the amount of the item plays a part
pub entry-fits : (d : AppendState) (p : AppendCall) → SFits w32 (amount_at d.inputs.table p.item) → Given p → Fitting (call_record d p)
entry-fits d p h g =
    record {
      kind = g.kind;
      reserved = omega arith;
      transaction = g.tx;
      next = omega arith;
      item = g.item;
      before = by_cases (eqb p.kind 2) (λ e. rw e h) (λ e. rw e (record { sfits = omega arith }));
      after = g.after;
    }

-- an amount of the table at each place: the table's amounts
pub amounts-all : (t : List Amount) → ((x : ℕ) → SFits w32 (amount_at t x)) → Amounts t
amounts-all [] h = none
amounts-all (a ∷ t) h = amount (h 0) (amounts-all t (λ x. h (suc x)))

record RunFacts (before : AppendState) (d : AppendState) (rs : List Record) : Type 0 where
  entries : records_of d.inputs.journal ≡ rs
  good : Good d
  fits : (x : ℕ) → SFits w32 (amount_at d.inputs.table x)
  items : items d.inputs.journal ≡ items before.inputs.journal
  opening : opening_table d.inputs ≡ opening_table before.inputs
  room : length d.inputs.journal ≡ length before.inputs.journal

run-facts : (d : AppendState) {ps : List AppendCall} (rs : List Record) → Good d → ((x : ℕ) → SFits w32 (amount_at d.inputs.table x)) → AllGiven ps
    → records_of d.inputs.journal ≡ rs → RunFacts d (run_appends d ps) (appended_records d ps rs)
unfolding run_appends appended_records
run-facts d rs g h none e = record { entries = e; good = g; fits = h; items = refl; opening = refl; room = refl }
run-facts d rs g h (given {p} {ps} w ws) e =
    by_cases (accepts (append_on d p).answer)
    (λ a. let c = appended-clear d p a in
    let f = entry-fits d p (h p.item) w in
    let k = run-facts (append_state_after d p) (call_record d p ∷ rs) (good-next d p g c f) (fits_next d p g c f h) ws (records-next d p g c f ∙ ap (λ l. call_record d p ∷ l) e) in
    rw a (record { entries = k.entries; good = k.good; fits = k.fits; items = k.items ∙ items-next d p g c f; opening = k.opening ∙ opening-next d p g c f; room = k.room ∙ length-next d p g c f }))
    (λ a. rw (a, refused-next d p a) (run-facts d rs g h ws e))

counts_by_kind-none : counts_by_kind [] ≡ record { reads = 0; writes = 0; commits = 0; aborts = 0 }
unfolding counts_by_kind
counts_by_kind-none = refl

good-started : (d : Inputs) (m : ℕ) → Bytes d.journal → accepts (start d.journal m).answer ≡ true → length d.table ≡ m → Good (started_state d m)
good-started d m k a e =
    let b = d.journal in
    let c = started-clear b m a in
    record { bytes = started-bytes b m c k; checks = checks-started b m c d e; counts = sym (ap counts_by_kind (whole-started b m c) ∙ counts_by_kind-none) }

records-started : (b : List ℕ) (m : ℕ) → accepts (start b m).answer ≡ true → records_of (start b m).journal ≡ []
unfolding records
records-started b m a = rw (count-started b m (started-clear b m a))

-- with no records the opening table is the table
opening-started : (d : Inputs) (m : ℕ) → accepts (start d.journal m).answer ≡ true → opening_table (started_state d m).inputs ≡ d.table
unfolding opening_table opening_at
opening-started d m a =
    let t = d.table in
    ap (λ j. tabulate (λ x. initial (amount_at t x) j x) 0 (length t)) (whole-started d.journal m (started-clear d.journal m a)) ∙ tabulate-get_or t (pos 0)

pub checks-chained : {d : Inputs} → Checks d → Chained d.journal
checks-chained k zero l h = absurd (omega arith)
checks-chained {d} k (suc i) l h = chained-next d.journal (suc i) (k.sound.right i h).chained

-- each amount is what the records make of its opening amount
pub good-stands : (d : AppendState) → Good d → (t : List Amount) → opening_table d.inputs ≡ t → (x : ℕ) → x < length t
    → amount_at d.inputs.table x ≡ current (amount_at t x) (whole d.inputs.journal) x
good-stands d g t o x h =
    let b = d.inputs.journal in
    let u = d.inputs.table in
    let l : x < length u = omega (arith, ap length o, length-opening_table d.inputs) in
    sym (table-stands d.inputs g.checks (legal-day d.inputs g.bytes g.checks) x (omega (arith, table-length b u g.checks.table)))
    ∙ ap (λ a. current a (whole b) x) (sym (amount-opening_table d.inputs x l) ∙ ap (λ v. amount_at v x) o)

built : {before d : AppendState} {ps : List AppendCall} {rs : List Record} {t : List Amount} → opening_table before.inputs ≡ t → RunFacts before d (appended_records before ps rs) → Built rs t before ps d
built {d = d} {t = t} e k =
    let o = k.opening ∙ e in
    record {
      entries = k.entries;
      chained = checks-chained k.good.checks;
      ready = record { bytes = k.good.bytes; amounts = amounts-all _ k.fits; pass = checks-pass _ k.good.checks; counts = k.good.counts };
      items = k.items;
      opening = o;
      standing = good-stands d k.good t o;
      room = k.room;
    }

ready-good : {d : AppendState} → AppendReady d → Good d
ready-good r = record { bytes = r.bytes; checks = pass-checks _ r.pass; counts = r.counts }

pub appended-onto : AppendedOnto
appended-onto d ps r gs = built refl (run-facts d (records_of d.inputs.journal) (ready-good r) (amounts-fit r.amounts) gs refl)

pub appended-reads : AppendedReads
appended-reads d m ps k a e n gs =
    built (opening-started d m a) (run-facts (started_state d m) [] (good-started d m k a e) (amounts-fit n) gs (records-started d.journal m a))

-- ---- rebuilding

run-append : (d : AppendState) (ps qs : List AppendCall) → run_appends d (ps ++ qs) ≡ run_appends (run_appends d ps) qs
unfolding run_appends
run-append d [] qs = refl
run-append d (p ∷ ps) qs = run-append (append_state_after d p) ps qs

accepted-append : (d : AppendState) (ps qs : List AppendCall) → AllAccepted d ps → AllAccepted (run_appends d ps) qs → AllAccepted d (ps ++ qs)
unfolding run_appends AllAccepted
accepted-append d [] qs a c = c
accepted-append d (p ∷ ps) qs a c = (a.0, accepted-append (append_state_after d p) ps qs a.1 c)

accepted-one : (d : AppendState) (p : AppendCall) → accepts (append_on d p).answer ≡ true → AllAccepted d (p ∷ [])
unfolding AllAccepted
accepted-one d p e = (e, tt)

-- the post of a record
abbrev append_call_of : Record → AppendCall
append_call_of r = record { kind = r.kind; tx = tx_in r; item = r.item.0; after = r.after }

module _ (v : Inputs) (z : List ℕ) (kb : Bytes v.journal) (kz : Bytes z) (k : Checks v) (space : 20 * (count v.journal + 1) ≤ length z) where
  abbrev b : List ℕ
  b = v.journal

  abbrev t : List Amount
  t = v.table

  -- the state after the posts of the first n records
  record At (n : ℕ) (d : AppendState) : Type 0 where
    good : Good d
    entries : records_of d.inputs.journal ≡ map (linked_to 0) (records b n)
    items : items d.inputs.journal ≡ items b
    room : length d.inputs.journal ≡ length z
    table : (x : ℕ) → x < length t → amount_at d.inputs.table x ≡ current (opening_at v x) (history b n) x

  module _ (n : ℕ) (h : n < count b) (d : AppendState) (w : At n d) where
    abbrev r : Record
    r = record_at b (suc n)

    count_at : count d.inputs.journal ≡ n
    count_at = count-linked d.inputs.journal b n w.entries

    whole-at : whole d.inputs.journal ≡ history b n
    whole-at = whole-linked d.inputs.journal b n w.entries

    -- the record that the post adds: a write's before is what the table has come to
    entry-is : call_record d (append_call_of r) ≡ linked_to 0 r
    entry-is =
        let m = table-length b t k.table in
        let g : malformed (items b) r ≡ false = (k.sound.right n h).formed in
        record-path refl (sym (formed (items b) r g).reserved) refl refl refl
        (formed-cases (items b) r g
        (λ e l v. rw e (sym v))
        (λ e l. rw e (w.table r.item.0 (omega arith) ∙ sym (before-standing v k.sound n h e)))
        (λ e v. rw e (sym v))
        (λ e v. rw e (sym v)))
        refl

    at-enters : Enters d.inputs.journal (call_record d (append_call_of r))
    at-enters =
        let g = k.sound.right n h in
        let s = count-bound b k.sound.head in
        rw entry-is
        (record {
          formed = rw w.items (malformed-linked_to (items b) 0 r ∙ g.formed);
          follows = rw (whole-at, count_at, op_of-linked_to (suc n) 0 r) g.follows;
          room = room_for d.inputs.journal (omega (arith, count_at)) (omega (arith, count_at, w.room));
        })

    at-fits : Fitting (call_record d (append_call_of r))
    at-fits =
        let f = record_at-fitting kb (suc n) in
        rw entry-is
        (record { kind = f.kind; reserved = f.reserved; transaction = f.transaction; next = omega arith; item = f.item; before = f.before; after = f.after })

    at_clear : Clear (append_order d.inputs d.counts (call_record d (append_call_of r)))
    at_clear = enters-clear d (append_call_of r) w.good at-enters

    at_table : (x : ℕ) → x < length t → amount_at (append_state_after d (append_call_of r)).inputs.table x ≡ current (opening_at v x) (history b (suc n)) x
    at_table x l =
        let o : Op = op_of (suc (count d.inputs.journal)) (call_record d (append_call_of r)) in
        let m : length d.inputs.table ≡ length t = table-length d.inputs.journal d.inputs.table w.good.checks.table ∙ w.items ∙ sym (table-length b t k.table) in
        ap (λ v. amount_at v x) (next-table d (append_call_of r) at_clear) ∙ amount-applied_table (whole d.inputs.journal) o d.inputs.table x (omega arith)
        ∙ rw (entry-is, whole-at, count_at, op_of-linked_to (suc n) 0 r, w.table x l, history-suc b n)

    at_next : At (suc n) (append_state_after d (append_call_of r))
    at_next =
        let c = at_clear in
        record {
          good = good-next d (append_call_of r) w.good c at-fits;
          entries = records-next d (append_call_of r) w.good c at-fits ∙ rw (entry-is, w.entries, records-suc b n);
          items = items-next d (append_call_of r) w.good c at-fits ∙ w.items;
          room = length-next d (append_call_of r) w.good c at-fits ∙ w.room;
          table = at_table;
        }

  abbrev start_state : AppendState
  start_state = restarted_state v z

  started : Clear (start_order z (items b))
  unfolding short bad_items items
  started =
      let m : within 1 1024 (items b) ≡ true = (head-head_fields b k.sound.head).items in
      start-clear z (items b) (le-ltb (length z) 20 (omega arith)) (rw m)

  start-accepts : accepts (start z (items b)).answer ≡ true
  start-accepts = ap accepts (start-accepted z (items b) started)

  at-started : At 0 start_state
  at-started =
      record {
        good = good-started (handed_on z (opening_table v) v) (items b) kz start-accepts (length-opening_table v ∙ table-length b t k.table);
        entries = records-started z (items b) start-accepts ∙ sym (ap (map (linked_to 0)) (records-zero b));
        items = items-started z (items b) started;
        room = length-started z (items b) started;
        table = λ x h. amount-opening_table v x h ∙ rw (history-zero b);
      }

  at-run : (n : ℕ) → n ≤ count b → At n (run_appends start_state (append_calls_of b n)) × AllAccepted start_state (append_calls_of b n)
  unfolding run_appends AllAccepted append_calls_of
  at-run zero h = (at-started, tt)
  at-run (suc n) h =
      let (w, a) = at-run n (omega arith) in
      let p : AppendCall = append_call_of (record_at b (suc n)) in
      let d : AppendState = run_appends start_state (append_calls_of b n) in (
        rw (run-append start_state (append_calls_of b n) (p ∷ [])) (at_next n h d w),
        accepted-append start_state (append_calls_of b n) (p ∷ []) a (accepted-one d p (clear-accepted d p (at_clear n h d w))),
      )

  table-again : (d : AppendState) → At (count b) d → d.inputs.table ≡ t
  unfolding opening_at whole
  table-again d w =
      let m : length t ≡ items b = table-length b t k.table in
      let n : length d.inputs.table ≡ length t = table-length d.inputs.journal d.inputs.table w.good.checks.table ∙ w.items ∙ sym m in
      ext_get_or (pos 0) d.inputs.table t n
      (λ x h. w.table x (omega arith) ∙ settled-current (amount_at t x) (history b (count b)) x (settled-amount b t x (k.settled x (omega arith))))

pub rebuilding : Rebuilding
rebuilding v z kb kz e space =
    let k = pass-checks v e in
    let (w, a) = at-run v z kb kz k space (count v.journal) (omega arith) in
    record {
      started = start-accepts v z kb kz k space;
      accepted = a;
      journal = same_bytes _ v.journal w.good.bytes kb w.good.checks.sound k.sound w.items w.entries;
      table = table-again v z kb kz k space _ w;
    }
