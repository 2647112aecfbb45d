-- A command of the program, as what the words ask for.
use Rattle.cla_words.specs.Words as words
use Rattle.cla_words.specs.declared.command.Command.{Command}
use Rattle.cla_words.specs.declared.command.Command.TheVariants.{Run, Pack, Unpack, Stats}

-- what the program's command asks for
abbrev pub asked : Command → words.Command
asked (Run script budget) = words.Run script.now budget
asked (Pack table packed budget) = words.Pack table.now packed.now budget
asked (Unpack packed table) = words.Unpack packed.now table.now
asked (Stats table) = words.Stats table.now
