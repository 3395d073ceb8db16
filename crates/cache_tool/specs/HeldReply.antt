-- The reply that a sink in memory holds.
use Rattle.std.specs.Prelude.{List, ℕ}
use Rattle.cache_tool.specs.declared.last_reply.LastReply.{LastReply}

-- the bytes that it took
abbrev pub said_in : LastReply → List ℕ
said_in r = r.text
