-- The fields of sources and sinks in memory as contracts see them.
use Rattle.std.specs.Prelude.{drop}
use Rattle.hc_lines.specs.Memory.{MemoryReads, MemoryWrites}
use Rattle.hc_lines.specs.declared.memory.MemSource.TheInside.{Inside as SourceFields}
use Rattle.hc_lines.specs.declared.memory.MemSink.TheInside.{Inside as SinkFields}

abbrev pub reads_of : SourceFields → MemoryReads
reads_of fields = record {
  left = drop fields.start fields.bytes.items;
  cuts = fields.cuts.items;
  fails = fields.fails.items;
  calls = fields.calls;
  failed = fields.failed;
}

abbrev pub writes_of : SinkFields → MemoryWrites
writes_of fields = record {
  taken = fields.bytes.items;
  fails = fields.fails.items;
  calls = fields.calls;
  failed = fields.failed;
}
