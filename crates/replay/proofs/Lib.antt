mod TwoBytes
