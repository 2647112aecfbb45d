-- What the command `stats` comes to.
use Rattle.std.proofs.Common.{◌≡◌, ℕ, ◌+◌, ◌<◌, ◌≤◌, List, ◌++◌, length, map, drop, get_or, Bool, true, false}
use Rattle.std.proofs.Common.{if◌then◌else◌, Option, Some, None, Result, Ok, Err, refl, sym, ap, ◌∙◌, drop-cons}
use Rattle.std.proofs.Math.Numerals.{add-one}
use Rattle.std.proofs.lemmas.List.{append_assoc, append-nil, drop_all, length-map}
use Rattle.std.specs.FinMap as fin
use Rattle.cla_spec.specs.Files.{Told}
use Rattle.cla_num.specs.Counts.{zero_counts}
use Rattle.cla_tables.specs.declared.stats.GroupStats.{GroupStats}
use Rattle.cla_tables.specs.declared.stats.TableStats.{TableStats}
use Rattle.cla_tables.specs.TableFiles.{TableFile}
use Rattle.cla_tables.specs.Stats.{stats_of, AreStats}
use Rattle.cla_cli.specs.declared.writing.Form.{Form}
use Rattle.cla_cli.specs.Forms.{file_of}
use Rattle.cla_cli.specs.Limits.{most_budget}
use Rattle.cla_cli.specs.Statements.{printing}
use Rattle.cla_cli.specs.Stats.{head_lines, group_line, group_lines, stats_text}
use Rattle.cla_cli.specs.Outcome.{Outcome, Refusal, refused, budget_refusal, unless_refused, unless_missing}
use Rattle.cla_cli.specs.Outcome.{unless_larger, checked_table, with_table, text_outcome, file_outcome, evaluated}
use Rattle.cla_cli.specs.Outcome.{stats_outcome, written_outcome}
use Rattle.cla_cli.specs.Parts.{Reaches}

-- it counts nothing
either_counts : (b : Bool) (o p : Outcome) → o.counts ≡ zero_counts → p.counts ≡ zero_counts
    → (if b then o else p).counts ≡ zero_counts
either_counts true o p first second = first
either_counts false o p first second = second

checked_counts : (checked : Result TableFile Refusal) (next : TableFile → Outcome) →
    ((t : TableFile) → (next t).counts ≡ zero_counts)
    → (unless_refused checked next).counts ≡ zero_counts
checked_counts (Ok t) next none = none t
checked_counts (Err refusal) next none = refl

missing_counts : (name : List ℕ) (found : Option (List ℕ)) (next : List ℕ → Outcome)
    → ((text : List ℕ) → (next text).counts ≡ zero_counts) → (unless_missing name found next).counts ≡ zero_counts
missing_counts name None next none = refl
missing_counts name (Some text) next none = none text

larger_counts : (name : List ℕ) (budget size : ℕ) (o : Outcome) → o.counts ≡ zero_counts
    → (unless_larger name budget size o).counts ≡ zero_counts
larger_counts name budget size o none = either_counts _ o (refused (budget_refusal name size budget)) none refl

table_counts : (bits budget : ℕ) (told : Told) (name : List ℕ) (next : TableFile → Outcome)
    → ((t : TableFile) → (next t).counts ≡ zero_counts) → (with_table bits budget told name next).counts ≡ zero_counts
table_counts bits budget told name next none =
    missing_counts name (fin.get told name) _ (λ bytes. checked_counts (checked_table bits name bytes) _
    (λ t. larger_counts name budget t.bytes (next t) (none t)))

pub stats_counts : (bits : ℕ) (told : Told) (name : List ℕ) → (stats_outcome bits told name).counts ≡ zero_counts
stats_counts bits told name =
    table_counts bits most_budget told name (λ t. text_outcome (stats_text t)) (λ t. refl)

-- nor does one that writes a file
pub written_counts : (form : Form) (bits budget : ℕ) (told : Told) (from to : List ℕ)
    → (written_outcome form bits budget told from to).counts ≡ zero_counts
written_counts form bits budget told from to =
    table_counts bits budget told from (λ t. file_outcome to (file_of form t.matrix)) (λ t. refl)

-- a table that was read decides by its text
pub stats_reached : (o : Outcome) (t : TableFile) (text : List ℕ) → text ≡ stats_text t
    → Reaches o (text_outcome (stats_text t)) → Reaches o (evaluated zero_counts (printing text))
stats_reached o t text same on = rw same on

-- the lines of groups, one after the other
lines_next : (before : ℕ) (groups : List GroupStats) (none : GroupStats) → before < length groups
    → group_lines before (drop before groups)
    ≡ group_line (before + 1) (get_or groups before none) ++ group_lines (before + 1) (drop (before + 1) groups)
lines_next before groups none in_list =
    rw (add-one before) (ap (group_lines before) (drop-cons groups before none in_list))

pub line_appended : (whole old text more : List ℕ) (before : ℕ) (groups : List GroupStats) (none : GroupStats)
    → before < length groups → more ≡ text ++ group_line (before + 1) (get_or groups before none)
    → old ++ whole ≡ text ++ group_lines before (drop before groups)
    → old ++ whole ≡ more ++ group_lines (before + 1) (drop (before + 1) groups)
line_appended whole old text more before groups none in_list appended so_far =
    let g = get_or groups before none in
    so_far ∙ ap (λ l. text ++ l) (lines_next before groups none in_list)
    ∙ sym (append_assoc text (group_line (before + 1) g) (group_lines (before + 1) (drop (before + 1) groups)))
    ∙ ap (λ l. l ++ group_lines (before + 1) (drop (before + 1) groups)) (sym appended)

pub lines_end : (whole old text : List ℕ) (before : ℕ) (groups : List GroupStats) → length groups ≤ before
    → old ++ whole ≡ text ++ group_lines before (drop before groups) → text ≡ old ++ whole
lines_end whole old text before groups past so_far =
    sym (so_far ∙ ap (λ l. text ++ group_lines before l) (drop_all before groups past) ∙ append-nil text)

-- the head and the lines of the groups are the text of a table
whole_lines : ℕ → ℕ → ℕ → List GroupStats → List ℕ
whole_lines rows cols bytes groups = head_lines rows cols (length groups) bytes ++ group_lines 0 groups

pub whole_text : (t : TableFile) (s : TableStats) (text head : List ℕ) → AreStats t s
    → head ≡ head_lines s.rows s.cols (length s.groups.items) s.bytes
    → text ≡ head ++ group_lines 0 s.groups.items → text ≡ stats_text t
unfolding whole_lines
whole_text t s text head are headed appended =
    let groups = map (stats_of t.matrix) t.groups in
    appended ∙ ap (λ h. h ++ group_lines 0 s.groups.items) headed
    ∙ ap (λ rows. whole_lines rows s.cols s.bytes s.groups.items) are.rows
    ∙ ap (λ cols. whole_lines t.matrix.rows cols s.bytes s.groups.items) are.cols
    ∙ ap (λ bytes. whole_lines t.matrix.rows t.matrix.cols bytes s.groups.items) are.bytes
    ∙ ap (whole_lines t.matrix.rows t.matrix.cols t.bytes) are.groups
    ∙ ap (λ n. head_lines t.matrix.rows t.matrix.cols n t.bytes ++ group_lines 0 groups)
    (length-map t.groups (stats_of t.matrix))
