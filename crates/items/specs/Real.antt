-- The digest and the cipher of this store: SHA-256 (FIPS 180-4) and ChaCha20 (RFC 8439). Assumes nothing.
use Rattle.digest_sha2.specs.Sha256.{sha256}
use Rattle.chacha20.specs.ChaCha.{cipher}
use Rattle.items.specs.Items.{Means}

abbrev pub real : Means
real = record { digest = sha256; cipher = cipher }
