-- What a command line comes to: its status, its effects, the files that it needs, its counts and its line on standard
-- error.
use Rattle.std.specs.Prelude.{ℕ, List, [], ◌∷◌, length, map, Option, Some, None, Bool, Result, Ok, Err, nat_le}
use Rattle.std.specs.Prelude.{if◌then◌else◌}
use Rattle.std.specs.FinMap as fin
use Rattle.cla_spec.specs.Files.{Told}
use Rattle.cla_spec.specs.Effects.{Effect}
use Rattle.cla_spec.specs.Matrix.{Matrix}
use Rattle.cla_num.specs.Counts.{Counts, zero_counts}
use Rattle.cla_num.specs.declared.fault.OpFault.{OpFault}
use Rattle.cla_market.specs.declared.fault.MtxFault.TheVariants as mtx
use Rattle.cla_packed.specs.declared.fault.PackFault.TheVariants as pack
use Rattle.cla_tables.specs.declared.fault.FileFault.{FileFault}
use Rattle.cla_tables.specs.declared.fault.FileFault.TheVariants as file
use Rattle.cla_tables.specs.TableFiles.{TableFile, table_in}
use Rattle.cla_grammar.specs.declared.place.Place.{Place}
use Rattle.cla_grammar.specs.declared.words.ScriptKind.TheVariants.{Clash}
use Rattle.cla_grammar.specs.Faults as grammar
use Rattle.cla_grammar.specs.Tree.{Statement}
use Rattle.cla_tokens.specs.Scripts.{script_in}
use Rattle.cla_script.specs.Clashes.{first_clash}
use Rattle.cla_check.specs.Scripts.{first_shape_fault}
use Rattle.cla_check.specs.declared.shape.Shape.{Shape}
use Rattle.cla_check.specs.declared.fault.Fault as shapes
use Rattle.cla_cli.specs.declared.status.Status.{Status}
use Rattle.cla_cli.specs.declared.status.Status.TheVariants.{Done, Usage, Missing, BadScript, BadFile, Limit}
use Rattle.cla_cli.specs.declared.status.Status.TheVariants.{Operator, OverBudget}
use Rattle.cla_cli.specs.declared.status.BadKind.{BadKind}
use Rattle.cla_cli.specs.declared.status.BadKind.TheVariants as kind
use Rattle.cla_cli.specs.Limits.{script_limit, table_limit, most_budget}
use Rattle.cla_words.specs.Words.{Command, Run, Pack, Unpack, Stats, accepted_command}
use Rattle.cla_cli.specs.declared.writing.Form.{Form}
use Rattle.cla_cli.specs.declared.writing.Form.TheVariants as form
use Rattle.cla_cli.specs.Texts.{usage_line, missing_line, limit_line, script_line, table_line, operator_line}
use Rattle.cla_cli.specs.Texts.{budget_line}
use Rattle.cla_cli.specs.Stats.{stats_text}
use Rattle.cla_cli.specs.Statements.{Trace, printing, replacing, trace_of, script_work, are_built, files_read}
use Rattle.cla_cli.specs.Forms.{file_of}

pub record Outcome : Type 0 where
  pub status : Status
  pub effects : List Effect
  -- the names of the files that the checks read, in order, up to the one where the first check refuses
  pub needed : List (List ℕ)
  -- the counts of all operators; none where a check before them refuses
  pub counts : Counts
  -- the line on standard error, if there is one
  pub line : Option (List ℕ)

-- why a check refuses: the status, and the line that tells it
pub record Refusal : Type 0 where
  pub status : Status
  pub line : List ℕ

-- a check refuses
abbrev pub refused : Refusal → Outcome
refused refusal = record {
  status = refusal.status;
  effects = [];
  needed = [];
  counts = zero_counts;
  line =
      Some refusal.line;
}

-- a check reads this file, and others may follow
abbrev pub needing : List ℕ → Outcome → Outcome
needing name outcome = record outcome { needed = name ∷ outcome.needed }

-- The checks. Each refuses, or lets the next ones decide.

-- what a check makes of what it is given
abbrev pub unless_refused : {X : Type 0} → Result X Refusal → (X → Outcome) → Outcome
unless_refused (Ok x) next = next x
unless_refused (Err refusal) next = refused refusal

-- the words are no command
abbrev pub usage_refusal : Refusal
usage_refusal = record { status = Usage; line = usage_line }

abbrev pub unless_usage : Option Command → (Command → Outcome) → Outcome
unless_usage None next = refused usage_refusal
unless_usage (Some command) next = next command

-- a file is absent
abbrev pub missing_refusal : List ℕ → Refusal
missing_refusal name = record { status = Missing; line = missing_line name }

abbrev pub unless_missing : List ℕ → Option (List ℕ) → (List ℕ → Outcome) → Outcome
unless_missing name None next = refused (missing_refusal name)
unless_missing name (Some text) next = next text

-- a text is longer than its limit
abbrev pub limit_refusal : List ℕ → ℕ → Refusal
limit_refusal name limit = record { status = Limit; line = limit_line name limit }

abbrev pub unless_longer : List ℕ → ℕ → List ℕ → Outcome → Outcome
unless_longer name limit text next = if nat_le (length text) limit then next else refused (limit_refusal name limit)

abbrev pub place_at : ℕ → ℕ → Place
place_at line col = record { line = line; col = col }

-- a script is refused at a place
abbrev pub refusal_at : Place → BadKind → Refusal
refusal_at place kind = record { status = BadScript place kind; line = script_line place kind }

-- the checks of a script's text: its first refused token, then the files that it both reads and writes
abbrev pub unless_clash : List Statement → Option Place → Result (List Statement) Refusal
unless_clash xs None = Ok xs
unless_clash xs (Some place) = Err (refusal_at place (kind.Script Clash))

abbrev pub unless_token : Result (List Statement) grammar.Fault → Result (List Statement) Refusal
unless_token (Ok xs) = unless_clash xs (first_clash xs)
unless_token (Err fault) = Err (refusal_at fault.place (kind.Script fault.kind))

abbrev pub checked_script : ℕ → List ℕ → Result (List Statement) Refusal
checked_script bits text = unless_token (script_in bits text)

-- a file is no table: it passes the limit of cells or of bytes, or has another fault
abbrev pub table_status : FileFault → Status
table_status (file.Mtx (mtx.TooLarge rows cols)) = Limit
table_status (file.Mtx mtx.TooLong) = Limit
table_status (file.Pack (pack.TooLarge rows cols)) = Limit
table_status (file.Pack pack.TooLong) = Limit
table_status fault = BadFile fault

abbrev pub table_refusal : List ℕ → FileFault → Refusal
table_refusal name fault = record { status = table_status fault; line = table_line name fault }

abbrev pub table_or_refusal : List ℕ → Result TableFile FileFault → Result TableFile Refusal
table_or_refusal name (Ok table) = Ok table
table_or_refusal name (Err fault) = Err (table_refusal name fault)

-- the check of a table's file: the table that it holds, as a packed file or as Matrix Market text, or its first fault
abbrev pub checked_table : ℕ → List ℕ → List ℕ → Result TableFile Refusal
checked_table bits name bytes = table_or_refusal name (table_in bits table_limit bytes)

-- a table takes more bytes, as a packed file, than a budget
abbrev pub budget_refusal : List ℕ → ℕ → ℕ → Refusal
budget_refusal name needed budget = record { status = OverBudget needed budget; line = budget_line name needed budget }

abbrev pub unless_larger : List ℕ → ℕ → ℕ → Outcome → Outcome
unless_larger name budget size next = if nat_le size budget then next else refused (budget_refusal name size budget)

-- the table of this name, within a budget, and the tables of these names one after the other
abbrev pub with_table : ℕ → ℕ → Told → List ℕ → (TableFile → Outcome) → Outcome
with_table bits budget told name next =
    needing name
    (unless_missing name (fin.get told name)
    (λ bytes. unless_refused (checked_table bits name bytes) (λ t. unless_larger name budget t.bytes (next t))))

abbrev pub with_tables : ℕ → ℕ → Told → List (List ℕ) → (List Matrix → Outcome) → Outcome
with_tables bits budget told [] next = next []
with_tables bits budget told (name ∷ names) next =
    with_table bits budget told name (λ t. with_tables bits budget told names (λ ms. next (t.matrix ∷ ms)))

-- all operators were evaluated, or one failed
abbrev pub status_after : Option (Place × OpFault) → Status
status_after None = Done
status_after (Some fault) = Operator fault.0 fault.1

abbrev pub line_after : Option (Place × OpFault) → Option (List ℕ)
line_after None = None
line_after (Some fault) = Some (operator_line fault.0 fault.1)

abbrev pub evaluated : Counts → Trace → Outcome
evaluated counts trace = record {
  status = status_after trace.fault;
  effects = trace.effects;
  needed = [];
  counts = counts;
  line =
      line_after trace.fault;
}

-- the checks of a script over its tables: shapes, and whether all statements run today
abbrev pub shape_of_table : Matrix → Shape
shape_of_table m = record { rows = m.rows; cols = m.cols }

abbrev pub unbuilt_refusal : Refusal
unbuilt_refusal = refusal_at (place_at 1 1) kind.Unbuilt

abbrev pub unless_shape : Option shapes.Fault → Bool → Result (Unit {0}) Refusal
unless_shape None built = if built then Ok tt else Err unbuilt_refusal
unless_shape (Some fault) built = Err (refusal_at fault.place (kind.Shape fault.kind))

abbrev pub checked_statements : List Statement → List Matrix → Result (Unit {0}) Refusal
checked_statements xs tables = unless_shape (first_shape_fault xs (map shape_of_table tables)) (are_built xs)

-- what statements come to, over their tables
abbrev pub statements_outcome : ℕ → List Statement → List Matrix → Outcome
statements_outcome bits xs tables = evaluated (script_work [] xs tables) (trace_of bits [] xs tables)

abbrev pub tables_outcome : ℕ → List Statement → List Matrix → Outcome
tables_outcome bits xs tables = unless_refused (checked_statements xs tables) (λ u. statements_outcome bits xs tables)

-- what statements come to: each table in the order of its reads, then shapes, then the statements one after the other
abbrev pub reads_outcome : ℕ → ℕ → Told → List Statement → Outcome
reads_outcome bits budget told xs = with_tables bits budget told (files_read xs) (tables_outcome bits xs)

-- what a script comes to: it is there, isn't too long, and its text is a script
abbrev pub script_outcome : ℕ → ℕ → Told → List ℕ → Outcome
script_outcome bits budget told name =
    needing name
    (unless_missing name (fin.get told name)
    (λ text. unless_longer name script_limit text
    (unless_refused (checked_script bits text) (reads_outcome bits budget told))))

-- a text is printed, and no operator is counted
abbrev pub text_outcome : List ℕ → Outcome
text_outcome text = evaluated zero_counts (printing text)

-- how the table of this name is grouped, whatever it takes
abbrev pub stats_outcome : ℕ → Told → List ℕ → Outcome
stats_outcome bits told name = with_table bits most_budget told name (λ t. text_outcome (stats_text t))

-- a file is written, and no operator is counted
abbrev pub file_outcome : List ℕ → List ℕ → Outcome
file_outcome name bytes = evaluated zero_counts (replacing name bytes)

-- the table of the first name is written as a file of the second one, in this form
abbrev pub written_outcome : Form → ℕ → ℕ → Told → List ℕ → List ℕ → Outcome
written_outcome form bits budget told from to =
    with_table bits budget told from (λ t. file_outcome to (file_of form t.matrix))

-- the budget that was asked for, or the greatest one
abbrev pub budget_or_most : Option ℕ → ℕ
budget_or_most None = most_budget
budget_or_most (Some budget) = budget

abbrev pub command_outcome : ℕ → Told → Command → Outcome
command_outcome bits told (Run script budget) = script_outcome bits (budget_or_most budget) told script
command_outcome bits told (Pack table packed budget) =
    written_outcome form.Packed bits (budget_or_most budget) told table packed
command_outcome bits told (Unpack packed table) = written_outcome form.Market bits most_budget told packed table
command_outcome bits told (Stats table) = stats_outcome bits told table

-- what these words come to over files that hold this, with numbers of this many bits: the checks come in this order,
-- and the first refusal decides
abbrev pub outcome_of : ℕ → List (List ℕ) → Told → Outcome
outcome_of bits words told = unless_usage (accepted_command words) (command_outcome bits told)
