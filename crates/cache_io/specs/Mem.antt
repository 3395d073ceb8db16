-- What a source in memory has left and a sink in memory took, and their plans of faults.
use Rattle.std.specs.Prelude.{◌≡◌, ℕ, List, drop, Any}
use Rattle.cache_base.specs.Causes.{one_more}
use Rattle.cache_io.specs.declared.mem.MemSource.{MemSource}
use Rattle.cache_io.specs.declared.mem.MemSink.{MemSink}

-- the bytes that a source has left
abbrev pub left_in : MemSource → List ℕ
left_in s = drop s.at s.bytes

-- the bytes that a sink took
abbrev pub taken_in : MemSink → List ℕ
taken_in s = s.bytes

-- the numbers of the reads that are to fail
abbrev pub failing_reads : MemSource → List ℕ
failing_reads s = s.planned

-- the numbers of the writes that are to fail
abbrev pub failing_writes : MemSink → List ℕ
failing_writes s = s.planned

-- the most bytes that one read gives
abbrev pub piece_of : MemSource → ℕ
piece_of s = s.piece

-- how many reads were made
abbrev pub reads_of : MemSource → ℕ
reads_of s = s.calls

-- how many writes were made
abbrev pub writes_of : MemSink → ℕ
writes_of s = s.calls

-- how many reads failed
abbrev pub read_faults_of : MemSource → ℕ
read_faults_of s = s.faults

-- how many writes failed
abbrev pub write_faults_of : MemSink → ℕ
write_faults_of s = s.faults

-- the next read is to fail
abbrev pub FailsNextRead : MemSource → Type 0
FailsNextRead s = Any (λ number. number ≡ one_more s.calls) s.planned

-- the next write is to fail
abbrev pub FailsNextWrite : MemSink → Type 0
FailsNextWrite s = Any (λ number. number ≡ one_more s.calls) s.planned
