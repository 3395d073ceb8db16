-- What the words ask for, as the definitions see it.
use Rattle.std.specs.Prelude.{◌<◌, ◌^◌}
use Rattle.cache_base.specs.Bytes.{AreBytes}
use Rattle.cache_script.specs.Command.{command_of}
use Rattle.cache_theory.specs.Given.{IsGiven}
use Rattle.cache_theory.specs.Text.{IsSpoken}
use Rattle.cache_tool.specs.Words.{Asked, IsCount, fill_limit}
use Rattle.cache_tool.specs.declared.words.Asked.{Asked as Read}
use Rattle.cache_tool.specs.declared.words.Asked.TheVariants as read

-- what the program read from the words, in the terms of the contracts
abbrev pub asked : Read → Asked
asked (read.Run now) = Asked.Run now
asked (read.Put now key) = Asked.Put now key.now
asked (read.One now c) = Asked.One now (command_of c)
asked (read.Fill now count first) = Asked.Fill now count first
asked (read.Load now) = Asked.Load now

-- numbers fit their types, and texts are bytes; and a command has a reply that is printed
abbrev pub AskedIsGiven : Asked → Type 0
AskedIsGiven (Asked.Run now) = now < 2 ^ 32
AskedIsGiven (Asked.Put now key) = (now < 2 ^ 32) × AreBytes key
AskedIsGiven (Asked.One now c) = (now < 2 ^ 32) × (IsGiven c × IsSpoken c)
AskedIsGiven (Asked.Fill now count first) = (now < 2 ^ 32) × (IsCount fill_limit count × (first < 2 ^ 32))
AskedIsGiven (Asked.Load now) = now < 2 ^ 32
