-- What the next Lost line may name beyond what is owed, by what is kept of the connection.
use Rattle.std.specs.Prelude.{ℕ, Option, Some, None}
use Rattle.qa_base.specs.declared.space.Space.TheVariants.{Initial}
use Rattle.qa_sender.specs.connection.Detecting.{Search, search_in}
use Rattle.qa_sender.specs.declared.connection.connection.Connection.{Connection}
use Rattle.qa_sender.specs.declared.connection.detection.Detection.{Detection}
use Rattle.qa_sent_packets.specs.declared.free.FreePackets.{FreePackets}

-- above the numbers that lie below the largest acknowledged one by the packet threshold, where such
-- packets may be spared
abbrev pub end_of : Option Detection → ℕ
end_of None = 0
end_of (Some d) = d.far_end

-- behind a detection, or another event
abbrev pub freed : Option Search → FreePackets
freed None = record { space = Initial; end = 0 }
freed (Some s) = record { space = s.space; end = end_of s.detection }

abbrev pub free_of : Connection → FreePackets
free_of k = freed (search_in k)
