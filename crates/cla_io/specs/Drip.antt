-- What files of which a few bytes move at a time show.
use Rattle.std.specs.Prelude.{ℕ}
use Rattle.cla_io.specs.declared.drip.Drip.{Drip}
use Rattle.cla_io.specs.declared.mem_files.MemFiles.{MemFiles}

-- the files behind them
abbrev pub files_in : Drip → MemFiles
files_in drip = drip.files

-- how many bytes move at a time
abbrev pub most_at_once : Drip → ℕ
most_at_once drip = drip.most
